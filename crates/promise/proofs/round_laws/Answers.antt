use Rattle.promise.proofs.Passing.{some_agree}
use Rattle.promise.proofs.Comes.{never_fails}
use Rattle.promise.proofs.Found.{returns_within}
use Rattle.promise.proofs.round_laws.Goals as goal

pub returns : goal.returns
returns c = record { never = never_fails; agree = some_agree; again = returns_within }
