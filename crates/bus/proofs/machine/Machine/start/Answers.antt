use Rattle.bus.proofs.Lawful.{started_table}
use Rattle.bus.proofs.machine.Machine.start.Goals as goal

pub invariant_of-result : goal.invariant_of-result
invariant_of-result c = record { sound = ∣ started_table c.args.table.now _ c.started.ensures ∣₁ }
