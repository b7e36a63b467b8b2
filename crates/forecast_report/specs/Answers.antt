-- What is printed for an input: the forecast of its table, started, under its ranking rule, or its first fault. Assumes nothing.
use Rattle.std.specs.Prelude.{◌≡◌, ℕ, Bool, List, [], ◌∷◌, ◌++◌, Ok, Err, Result}
use Rattle.refusal.specs.Tests.{and_then, on_ok}
use Rattle.refusal.specs.declared.Fault.{Fault}
use Rattle.model.specs.Figures.{figures}
use Rattle.model.specs.Bench.Call.{load, start}
use Rattle.model.specs.Forecast.{Answer, Tells, Foretells}
use Rattle.model.specs.Forecast.Answer.{holds, fails}
use Rattle.model.specs.Layout.{judged}
use Rattle.model.specs.Machine.{State}
use Rattle.model.specs.Ready.{Ready}
use Rattle.model.specs.Schedule.{started}
use Rattle.model.specs.Spelling.{Spells}
use Rattle.model.specs.Tables.{Table}
use Rattle.bus.specs.Rankings.{meaning, word}
use Rattle.bus.specs.declared.ranking.Ranking.{Ranking}
use Rattle.question.specs.Lines.{refused}
use Rattle.question.specs.Questions.{asked}
use Rattle.forecast_report.specs.Lines.{holding, figured, failing}

-- the lines of an answer about the quiet schedule from a state: its boundaries and the figures between them, or its first failure
abbrev pub lines : (Ready → Ready → Bool) → State → Answer → List ℕ
lines before s (holds i j) = holding i j ++ figured (figures before s i j)
lines before s (fails f) = failing f

-- the bytes are the lines of the one answer that is true of the quiet schedule from a state
pub record Foretold (before : Ready → Ready → Bool) (s : State) (bytes : List ℕ) : Type 0 where
  pub answer : Answer
  pub tells : Tells before s answer
  pub only : (a : Answer) → Tells before s a → a ≡ answer
  pub is : bytes ≡ lines before s answer

-- what is printed of a table under a ranking rule, or of the fault in its place
abbrev pub Told : (Ready → Ready → Bool) → Result Table Fault → List ℕ → Type 0
Told before (Ok t) bytes = Foretold before (started t) bytes
Told before (Err f) bytes = bytes ≡ refused f

-- what is printed for a question: the table file is judged once the word has named a ranking rule
abbrev pub Answered : Result (Ranking × List ℕ) Fault → List ℕ → Type 0
Answered (Ok q) bytes = Told (meaning q.0) (judged q.1) bytes
Answered (Err f) bytes = bytes ≡ refused f

-- the ranking rule and the started table that an input asks about, or its first fault
abbrev pub stood : List ℕ → Result (Ranking × State) Fault
stood input = and_then (asked input) (λ q. on_ok (λ t. (q.0, started t)) (judged q.1))

-- the bytes are those that are printed for an input
abbrev pub Prints : List ℕ → List ℕ → Type 0
Prints input bytes = Answered (asked input) bytes

-- and where the input is the word of a ranking rule, byte 10 and a file that spells a table within its limits, they are the forecast
-- of that table under that rule; and so of the calls that are made for it on a bench, to load the file and to start
abbrev pub Forecasts : List ℕ → List ℕ → Type 0
Forecasts input bytes =
    (r : Ranking) (file : List ℕ) (t : Table) → input ≡ word r ++ (10 ∷ file) → Spells file t
    → (f : Foretold (meaning r) (started t) bytes) × Foretells (meaning r) (load file ∷ start ∷ []) f.answer
