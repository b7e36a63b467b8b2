-- The answers to the lines of a text. Assumes nothing.
use Rattle.std.specs.Prelude.{◌≡◌, ℕ, ◌<◌, List, [], ◌++◌, length, string_bytes, Some, IfSome, Ok, Option, Result}
use Rattle.std.specs.Fn.{FnReturns, Shared}
use Rattle.std.specs.Io.BufRead.{first_line, drop_through}
use Rattle.std.specs.declared.alloc.AllocError.{AllocError}
use Rattle.std.specs.declared.alloc.Global.{Global}
use Rattle.std.specs.declared.string.String.{String}
use Rattle.hex.specs.Hex.{decode_of}
use denote.Ref.{Bor}

-- a call of f at an input may give this text
pub record Gives {F : Type 0} (calls : Shared F (Global × (Bor (List ℕ) × Unit {0})) (Result (String Global) AllocError)) (f : F) (heap : Global) (input text : List ℕ) : Type 0 where
  pub shown : Bor (List ℕ)
  pub shows : shown.now ≡ input
  pub told : String Global
  pub says : FnReturns calls f (heap, (shown, tt)) (Ok told)
  pub is : string_bytes told ≡ text

-- a text is the answers, one after the other, to the inputs that the lines of another spell
pub data Answers (Is : List ℕ → List ℕ → Type 0) : List ℕ → List ℕ → Type 0 where
  none : Answers Is [] []
  line : {given input text rest : List ℕ} → 0 < length given → decode_of (first_line given) ≡ Ok input → Is input text → Answers Is (drop_through 10 given) rest → Answers Is given (text ++ rest)

-- where it is known what a reader had left and what a writer held before, the writer holds the answers, too
abbrev pub Answered : (List ℕ → List ℕ → Type 0) → Option (List ℕ) → Option (List ℕ) → Option (List ℕ) → Type 0
Answered Is given before after = IfSome given (λ lines. IfSome before (λ held. (text : List ℕ) × Answers Is lines text × (after ≡ Some (held ++ text))))
