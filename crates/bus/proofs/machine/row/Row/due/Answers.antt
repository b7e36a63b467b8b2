use Rattle.model.specs.Machine.{born}
use Rattle.bus.proofs.machine.row.Row.due.Goals as goal

pub returns : goal.returns
unfolding born
returns c = cc
