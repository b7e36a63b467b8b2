-- What a forecast and its figures print. Assumes nothing.
use Rattle.std.specs.Prelude.{ℕ, List, ◌++◌, codes, decimal}
use Rattle.bus.specs.Machines.{failure_note}
use Rattle.bus.specs.Texts.{failure_text}
use Rattle.bench.specs.declared.answer.Forecast.{Forecast}
use Rattle.bench.specs.declared.answer.Forecast.TheVariants.{Holds, Fails}
use Rattle.bench.specs.declared.figures.Figures.{Figures}

-- the two boundaries of one that holds, or the first failure of one that fails
abbrev pub forecast_text : Forecast → List ℕ
forecast_text (Holds i j) = codes "holds " ++ (decimal i ++ (codes " " ++ decimal j))
forecast_text (Fails f) = codes "fails " ++ failure_text (failure_note f)

-- the figures in their order, each behind its name
abbrev pub figures_text : Figures → List ℕ
figures_text f =
    codes "length "
    ++ (decimal f.length ++ (codes " busy " ++ (decimal f.busy ++ (codes " met " ++ (decimal f.met ++ (codes " missed " ++ (decimal f.missed ++ (codes " load " ++ decimal f.load))))))))
