use Rattle.cases.proofs.Examples.{all_right}
use Rattle.cases.proofs.worked_examples.Goals as goal

pub returns : goal.returns
returns c = all_right
