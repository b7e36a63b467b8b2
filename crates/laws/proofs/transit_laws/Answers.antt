use Rattle.laws.proofs.Units.{transit_laws}
use Rattle.laws.proofs.transit_laws.Goals as goal

pub returns : goal.returns
returns c = transit_laws
