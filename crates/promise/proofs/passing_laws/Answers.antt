use Rattle.promise.proofs.Passing.{boundary_passes}
use Rattle.promise.proofs.passing_laws.Goals as goal

pub returns : goal.returns
returns c = boundary_passes
