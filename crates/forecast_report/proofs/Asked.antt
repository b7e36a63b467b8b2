-- An input with a known word. Assumes nothing.
use Rattle.std.proofs.Common.{◌≡◌, ℕ, Bool, List, [], ◌∷◌, Some, Ok, ap, ◌∙◌, subst}
use Rattle.refusal.specs.Tests.{kept}
use Rattle.model.specs.Bench.{calls_from, plain}
use Rattle.model.specs.Bench.Call.{load, start}
use Rattle.model.specs.Bench.Plain.{running}
use Rattle.model.specs.Forecast.{Answer, Tells, Foretells}
use Rattle.model.specs.Layout.{judged}
use Rattle.model.specs.Ready.{Ready}
use Rattle.model.specs.Schedule.{started}
use Rattle.model.specs.Tables.{Table, empty}
use Rattle.tablefile.proofs.Spelled.{spelled_exactly}
use Rattle.bus.specs.Rankings.{meaning}
use Rattle.question.proofs.Known.{known}
use Rattle.question.specs.Questions.{asked as asked-of}
use Rattle.forecast_report.specs.Answers.{Answered, Foretold, Forecasts, Prints, Told}

-- what is true of the started table is true of the bench after its calls
own_calls :
    (before : Ready → Ready → Bool) (file : List ℕ) (t : Table) (a : Answer) → judged file ≡ Ok t → Tells before (started t) a
    → Foretells before (load file ∷ start ∷ []) a
unfolding calls_from
own_calls before file t a is tells u s e =
    let there : plain before (load file ∷ start ∷ []) ≡ Some (running t (started t)) =
    ap (λ j. Some (running (kept empty j) (started (kept empty j)))) is in
    let same : started t ≡ s = cc in
    subst (λ x. Tells before x a) same tells

-- so the forecast of the table that the file spells is printed for it
pub forecasts : (input bytes : List ℕ) → Prints input bytes → Forecasts input bytes
forecasts input bytes prints r file t begins spelled =
    let is : judged file ≡ Ok t = (spelled_exactly file t).1 spelled in
    let f : Foretold (meaning r) (started t) bytes =
    subst (λ j. Told (meaning r) j bytes) is (subst (λ q. Answered q bytes) (ap asked-of begins ∙ known r file) prints) in
    (f, own_calls (meaning r) file t f.answer is f.tells)
