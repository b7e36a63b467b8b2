use Rattle.promise.proofs.Answers.{some_answer}
use Rattle.promise.proofs.Single.{one_answer}
use Rattle.promise.proofs.answer_laws.Goals as goal

pub returns : goal.returns
returns c = record { some = some_answer; one = one_answer }
