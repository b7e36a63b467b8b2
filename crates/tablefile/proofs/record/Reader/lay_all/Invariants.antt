use Rattle.std.proofs.Common.{◌≡◌, Ok}
use Rattle.model.specs.Layout.{slots}
use Rattle.tablefile.specs.Stands.{progress_of}
use Rattle.tablefile.proofs.record.Reader.lay_all.Given as goal

abbrev pub invariant-loop-slot : goal.invariant-loop-slot
invariant-loop-slot l = (slots l.initial.self.file.now l.slot ≡ Ok (progress_of l.self)) × (l.self.file.now ≡ l.initial.self.file.now)
