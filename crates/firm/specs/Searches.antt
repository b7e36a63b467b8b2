-- The least number with a property. Assumes nothing.
use Rattle.std.specs.Prelude.{ℕ, zero, suc, ◌<◌, Bool, cond}

-- the first number from j on that passes a test; past so many tries none is tested, and that number is the answer
unfoldable pub first_from : (ℕ → Bool) → ℕ → ℕ → ℕ
first_from test zero j = j
first_from test (suc tries) j = cond (test j) j (first_from test tries (suc j))

-- the property holds at n, and at no smaller number
pub record Least (P : ℕ → Type 0) (n : ℕ) : Type 0 where
  pub holds : P n
  pub before : (j : ℕ) → j < n → P j → ⊥
