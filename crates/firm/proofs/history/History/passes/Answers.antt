use Rattle.firm.specs.Histories.{passes}
use Rattle.firm.proofs.history.History.passes.Goals as goal

pub returns : goal.returns
unfolding passes
returns c = cc
