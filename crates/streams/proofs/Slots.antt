-- The periods and counts of the streams in some slots, and a stream that is laid into an empty one. Assumes nothing.
use Rattle.std.proofs.Common.{◌≡◌, ℕ, ◌*◌, ◌<◌, ◌≤◌, false, List, [], ◌∷◌, length, get_or, set, is_some, Some, None, Option, sym, refl, ◌∙◌, arith}
use Rattle.binomial.proofs.Sums.{at_least_positive}
use Rattle.model.specs.Tables.{lcm, hyper_period, passing_count, histories}
use Rattle.model.proofs.Counts.{Passable, histories_laid}
use Rattle.model.proofs.Periods.{Periodic, hyper_period_laid}
use Rattle.std.proofs.lemmas.List.{length-map, map-set}
use Rattle.std.proofs.lemmas.Bool.{false≢true}
use Rattle.streams.specs.Stands.{stream_of, slot_of, slots_of}
use Rattle.streams.specs.Tables.{table_of}
use Rattle.streams.specs.declared.stream.Stream.{Stream}
use Rattle.streams.specs.declared.table.Table.{Table}

pub period_positive : (s : Stream) → 0 < s.period
period_positive s = omega arith

pub slots_periodic : (slots : List (Option Stream)) → Periodic (slots_of slots)
slots_periodic [] = tt
slots_periodic (None ∷ slots) = slots_periodic slots
slots_periodic (Some s ∷ slots) = (period_positive s, slots_periodic slots)

pub slots_passable : (slots : List (Option Stream)) → Passable (slots_of slots)
slots_passable [] = tt
slots_passable (None ∷ slots) = slots_passable slots
slots_passable (Some s ∷ slots) = (at_least_positive s.history.k s.history.m s.history.most, slots_passable slots)

empty_slot : (o : Option Stream) → false ≡ is_some o → slot_of o ≡ None
empty_slot None e = refl
empty_slot (Some s) e = absurd (false≢true e)

-- a stream laid into an empty slot: the two numbers of the table then
pub record Laid (slots : List (Option Stream)) (i : ℕ) (s : Stream) : Type 0 where
  pub vacant : get_or (slots_of slots) i None ≡ None
  pub table : slots_of (set slots i (Some s)) ≡ set (slots_of slots) i (Some (stream_of s))
  pub period : hyper_period (set (slots_of slots) i (Some (stream_of s))) ≡ lcm (hyper_period (slots_of slots)) s.period
  pub count : histories (set (slots_of slots) i (Some (stream_of s))) ≡ histories (slots_of slots) * passing_count (stream_of s)

-- the slot i of the table t was read as o and found empty
pub laid : (t : Table) (i : ℕ) (s : Stream) (o : Option Stream) → i ≤ 7 → slot_of o ≡ get_or (table_of t) i None → false ≡ is_some o → Laid t.slots i s
laid t i s o h read none =
    let slots = t.slots in
    let within : i < length (slots_of slots) = omega (arith, length-map slots slot_of) in
    let vacant : get_or (slots_of slots) i None ≡ None = sym read ∙ empty_slot o none in
    record {
      vacant = vacant;
      table = map-set slot_of slots i (Some s);
      period = hyper_period_laid (slots_of slots) i (stream_of s) (slots_periodic slots) (period_positive s) within vacant;
      count = histories_laid (slots_of slots) i (stream_of s) within vacant;
    }
