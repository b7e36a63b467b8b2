use Rattle.promise.proofs.Boundaries.{boundaries, boundaries_told, alike_from}
use Rattle.promise.proofs.boundary_laws.Goals as goal

pub returns : goal.returns
returns c = record { idle = boundaries; told = boundaries_told; alike = alike_from }
