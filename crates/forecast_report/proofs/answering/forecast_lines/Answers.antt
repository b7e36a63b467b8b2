use Rattle.std.proofs.Common.{◌≡◌, ◌++◌, [], ◌∷◌, string_bytes, Some, None, subst, rules}
use Rattle.std.specs.Option.{option_map}
use Rattle.std.proofs.lemmas.Result.{IfOk-weaker}
use Rattle.model.specs.Figures.{Measures}
use Rattle.bench.specs.Figures.{figures_of}
use Rattle.bench.specs.Stands.{state_in}
use Rattle.bench.specs.Texts.{forecast_text, figures_text}
use Rattle.forecast_report.proofs.Foretold.{told_with, told_without}
use Rattle.forecast_report.proofs.answering.forecast_lines.Goals as goal

pub returns-in_default-Some : goal.returns-in_default-Some
returns-in_default-Some g c =
    let foretold = c.forecast_with_figures in
    let measures : Measures (g.R.Rule.before c.args.bench.now.rule) (state_in c.args.bench.now) (Some (figures_of c.in_default-Some.figures)) =
    subst (λ o. Measures (g.R.Rule.before c.args.bench.now.rule) (state_in c.args.bench.now) (option_map figures_of o)) c.in_default-Some.is-1 foretold.ensures.figures in
    IfOk-weaker c.format.result
    (λ s. string_bytes s ≡ forecast_text foretold.result.0 ++ ((10 ∷ []) ++ (figures_text c.in_default-Some.figures ++ (10 ∷ [])))) _
    (λ s. told_with _ _ c.args.bench.now.machine.sound _ _ foretold.ensures.forecast measures (string_bytes s)) (search rules)

pub returns-in_default-None : goal.returns-in_default-None
returns-in_default-None g c =
    let foretold = c.forecast_with_figures in
    let measures : Measures (g.R.Rule.before c.args.bench.now.rule) (state_in c.args.bench.now) None =
    subst (λ o. Measures (g.R.Rule.before c.args.bench.now.rule) (state_in c.args.bench.now) (option_map figures_of o)) c.in_default-None.is-1 foretold.ensures.figures in
    IfOk-weaker c.format-in_default-None.result (λ s. string_bytes s ≡ forecast_text foretold.result.0 ++ (10 ∷ [])) _
    (λ s. told_without _ _ c.args.bench.now.machine.sound _ foretold.ensures.forecast measures (string_bytes s)) (search rules)
