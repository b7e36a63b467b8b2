use Rattle.model.specs.Machine.{drop_row}
use Rattle.bus.specs.Machines.{tally_of}
use Rattle.bus.specs.Rows.{rows_of}
use Rattle.bus.proofs.Telling.{Told}
use Rattle.bus.proofs.Writing.{Done}
use Rattle.bus.proofs.machine.state.State.drop.Given as goal

abbrev pub invariant-loop-i : goal.invariant-loop-i
invariant-loop-i l =
    Done (drop_row l.instant) l.initial.slot-items l.slot-items l.i
    × Told l.instant (rows_of l.initial.slot-items) (tally_of l.told) l.i
