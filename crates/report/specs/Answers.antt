-- The answer to an input: the word of a ranking rule, byte 10, a table file. Assumes nothing.
use Rattle.std.specs.Prelude.{◌≡◌, ℕ, List, ◌∷◌, ◌++◌, Ok, Err, Result}
use Rattle.refusal.specs.Tests.{and_then}
use Rattle.refusal.specs.declared.Fault.{Fault}
use Rattle.model.specs.Tables.{Table, hyper_period, histories}
use Rattle.model.specs.Layout.{judged}
use Rattle.model.specs.Spelling.{Spells}
use Rattle.bus.specs.Rankings.{word}
use Rattle.bus.specs.declared.ranking.Ranking.{Ranking}
use Rattle.question.specs.Lines.{refused}
use Rattle.question.specs.Questions.{asked as question-of}
use Rattle.report.specs.Lines.{admitted}

-- the table that an input asks about, or its first fault: the table file is judged once the word has named a ranking rule
abbrev pub asked : List ℕ → Result Table Fault
asked input = and_then (question-of input) (λ q. judged q.1)

abbrev pub line : Result Table Fault → List ℕ
line (Ok t) = admitted (hyper_period t) (histories t)
line (Err f) = refused f

-- the bytes that are printed for an input
abbrev pub printed : List ℕ → List ℕ
printed input = line (asked input)

-- the line for an input is right: where the input is the word of a ranking rule, byte 10 and a file that spells a table within
-- its limits, the line admits that table with its two numbers
abbrev pub Admits : List ℕ → List ℕ → Type 0
Admits input bytes =
    (r : Ranking) (file : List ℕ) (t : Table) → input ≡ word r ++ (10 ∷ file) → Spells file t → bytes ≡ admitted (hyper_period t) (histories t)
