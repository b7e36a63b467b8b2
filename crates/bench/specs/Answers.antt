-- What a forecast of the code says. Assumes nothing.
use Rattle.model.specs.Forecast.{Answer}
use Rattle.model.specs.Forecast.Answer.{holds, fails}
use Rattle.bus.specs.Machines.{failure_note}
use Rattle.bench.specs.declared.answer.Forecast.{Forecast}
use Rattle.bench.specs.declared.answer.Forecast.TheVariants.{Holds, Fails}

abbrev pub answer_of : Forecast → Answer
answer_of (Holds i j) = holds i j
answer_of (Fails f) = fails (failure_note f)
