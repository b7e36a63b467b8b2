use Rattle.model.specs.Tally.{how_many, first_failure, tally}
use Rattle.bus.proofs.machine.tally.Tally.nothing.Goals as goal

pub returns : goal.returns
unfolding tally how_many first_failure
returns c = let h = c.default.ensures in rw (h.0, h.1.0, h.1.1.0, h.1.1.1)
