use Rattle.std.proofs.Common.{◌≡◌, string_bytes, rules}
use Rattle.std.proofs.lemmas.Result.{IfOk-weaker}
use Rattle.report.specs.Answers.{printed}
use Rattle.report.proofs.Asked.{admits}
use Rattle.report.proofs.responding.respond.Goals as goal

pub returns-in-Ok-clause-admits : goal.returns-in-Ok-clause-admits
returns-in-Ok-clause-admits c =
    IfOk-weaker c.admitted_line.result (λ s. string_bytes s ≡ printed c.args.input.now) _ (λ s. admits c.args.input.now (string_bytes s)) (search rules)

pub returns-in-Err-clause-admits : goal.returns-in-Err-clause-admits
returns-in-Err-clause-admits c =
    IfOk-weaker c.refused_line.result (λ s. string_bytes s ≡ printed c.args.input.now) _ (λ s. admits c.args.input.now (string_bytes s)) (search rules)
