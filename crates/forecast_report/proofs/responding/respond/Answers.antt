use Rattle.std.proofs.Common.{string_bytes, rules}
use Rattle.std.proofs.lemmas.Result.{IfOk-weaker}
use Rattle.forecast_report.specs.Answers.{Prints}
use Rattle.forecast_report.proofs.Asked.{forecasts}
use Rattle.forecast_report.proofs.responding.respond.Goals as goal

pub returns-in-Ok-clause-forecasts : goal.returns-in-Ok-clause-forecasts
returns-in-Ok-clause-forecasts c =
    IfOk-weaker c.forecast_lines.result (λ s. Prints c.args.input.now (string_bytes s)) _ (λ s. forecasts c.args.input.now (string_bytes s)) (search rules)

pub returns-in-Err-clause-forecasts : goal.returns-in-Err-clause-forecasts
returns-in-Err-clause-forecasts c =
    IfOk-weaker c.refused_line.result (λ s. Prints c.args.input.now (string_bytes s)) _ (λ s. forecasts c.args.input.now (string_bytes s)) (search rules)
