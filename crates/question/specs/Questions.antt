-- What an input asks: the word of a ranking rule, byte 10, a table file. Assumes nothing.
use Rattle.std.specs.Prelude.{ℕ, suc, List, take, drop, Some, None, Ok, Err, Option, Result, position, ◌==◌}
use Rattle.refusal.specs.declared.Fault.{Fault}
use Rattle.refusal.specs.declared.Refusal.TheVariants.{WordUnknown}
use Rattle.refusal.specs.declared.Layer.TheVariants.{Word}
use Rattle.bus.specs.Rankings.{named}
use Rattle.bus.specs.declared.ranking.Ranking.{Ranking}
use Rattle.question.specs.declared.question.Question.{Question}

-- the ranking rule and the table file of a question
abbrev pub question_of : Question → Ranking × List ℕ
question_of q = (q.ranking, q.file.now)

-- where the first byte 10 stands
abbrev pub newline : List ℕ → Option ℕ
newline input = position (λ b. b == 10) input

-- the fault of an input whose word names no ranking rule, or that has no word
abbrev pub no_word : Fault
no_word = record { refusal = WordUnknown; place = 0; layer = Word }

abbrev pub under : Option Ranking → List ℕ → Result (Ranking × List ℕ) Fault
under None file = Err no_word
under (Some r) file = Ok (r, file)

-- the word stands before the first byte 10, and the table file behind it
abbrev pub split : Option ℕ → List ℕ → Result (Ranking × List ℕ) Fault
split None input = Err no_word
split (Some i) input = under (named (take i input)) (drop (suc i) input)

-- the ranking rule and the table file that an input asks about, or its fault
abbrev pub asked : List ℕ → Result (Ranking × List ℕ) Fault
asked input = split (newline input) input
