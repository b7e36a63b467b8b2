use Rattle.laws.proofs.Units.{start_laws}
use Rattle.laws.proofs.start_laws.Goals as goal

pub returns : goal.returns
returns c = start_laws
