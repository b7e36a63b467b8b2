use Rattle.std.proofs.Common.{not, ap}
use Rattle.firm.specs.Histories.{repeated}
use Rattle.firm.proofs.history.History.is_turned.Goals as goal

pub returns-in-Met : goal.returns-in-Met
unfolding repeated
returns-in-Met c = rw c.in-Met.is c.passes.ensures

pub returns-in-Missed : goal.returns-in-Missed
unfolding repeated
returns-in-Missed c = rw c.in-Missed.is (ap not c.passes-in-Missed.ensures)
