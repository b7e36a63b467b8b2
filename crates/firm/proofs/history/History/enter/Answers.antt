use Rattle.firm.specs.Histories.{entered}
use Rattle.firm.proofs.history.History.enter.Goals as goal

pub returns : goal.returns
unfolding entered
returns c = cc
