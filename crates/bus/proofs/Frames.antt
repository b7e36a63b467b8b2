-- What every ready frame shows. Assumes nothing.
use Rattle.std.specs.Prelude.{ℕ, ◌<◌, List, [], ◌∷◌, map, length, slice_index_or}
use Rattle.std.proofs.ByRecursion.{All-get_or}
use Rattle.std.specs.List.{AllByRecursion}
use Rattle.model.specs.Ready.{Ready, Lawful}
use Rattle.bus.specs.declared.ready.ReadyFrame.{ReadyFrame}
use Rattle.bus.specs.Stands.{ready_of}

pub lawful : (f : ReadyFrame) → Lawful (ready_of f)
lawful f =
    record {
      slot_low = f.low;
      service_some = f.some;
      service_fits = f.fits;
      deadline_fits = f.constrained;
      period_short = f.short;
      required_some = f.history.some;
      required_most = f.history.most;
      window_short = f.history.wide;
      bits_fit = f.history.fits;
      left_enough = f.enough;
      left_most = f.most;
    }

all_lawful : (fs : List ReadyFrame) → AllByRecursion Lawful (map ready_of fs)
all_lawful [] = tt
all_lawful (f ∷ fs) = (lawful f, all_lawful fs)

pub each_lawful : (fs : List ReadyFrame) (i : ℕ) → i < length (map ready_of fs) → (d : Ready) → Lawful (slice_index_or (map ready_of fs) i d)
each_lawful fs i within d = All-get_or Lawful (map ready_of fs) i d within (all_lawful fs)
