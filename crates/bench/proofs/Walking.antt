-- What is told of one quiet unit: its first failure. Assumes nothing.
use Rattle.std.proofs.Common.{◌≡◌, List, ap}
use Rattle.std.specs.Option.{option_map}
use Rattle.model.specs.Machine.{Outcome}
use Rattle.model.specs.Tally.{tally, first_failure}
use Rattle.model.specs.Tally as model
use Rattle.bus.specs.Machines.{failure_note, tally_of}
use Rattle.bus.specs.declared.machine.tally.Tally.{Tally}

pub told_first : (t : Tally) (os : List Outcome) → tally_of t ≡ tally os → option_map failure_note t.first ≡ first_failure os
unfolding tally
told_first t os e = ap (λ (y : model.Tally). y.first) e
