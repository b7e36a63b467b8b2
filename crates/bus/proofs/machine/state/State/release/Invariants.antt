use Rattle.model.specs.Machine.{release_row}
use Rattle.bus.proofs.Writing.{Done}
use Rattle.bus.proofs.machine.state.State.release.Given as goal

abbrev pub invariant-loop-slot : goal.invariant-loop-slot
invariant-loop-slot l = Done (release_row l.instant) l.initial.slot-items l.slot-items l.slot-index
