use Rattle.rounds.proofs.Passing.{some_twice}
use Rattle.rounds.proofs.some_twice.Goals as goal

pub returns : goal.returns
returns c = some_twice
