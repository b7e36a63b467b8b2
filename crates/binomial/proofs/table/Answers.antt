-- Pascal's rule of the table, computed at once over all of it. Assumes nothing.
use Rattle.std.proofs.Common.{refl}
use Rattle.binomial.proofs.Triangle.{tested}
use Rattle.binomial.proofs.table.Goals as goal

pub returns : goal.returns
returns c = tested _ refl
