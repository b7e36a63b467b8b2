use Rattle.rounds.proofs.Boundaries.{same_again}
use Rattle.rounds.proofs.same_again.Goals as goal

pub returns : goal.returns
returns c = λ before t d a b alike n. same_again t d a b alike before n
