-- The table of binomial coefficients, rows 0 to 16, and Pascal's rule of it. Assumes nothing.
use Rattle.std.specs.Prelude.{◌≡◌, ℕ, suc, ◌+◌, ◌<◌, ◌≤◌, List, [], slice_index, slice_index_or}
use Rattle.binomial.specs.declared.Row.{Row}

-- what stands at place j of row n
abbrev pub cell : List Row → ℕ → ℕ → ℕ
cell rows n j = slice_index (slice_index_or rows n (record { entries = [] })).entries j

-- Pascal's rule over all of the table: each row starts with 1, row 0 has 0 behind that,
-- and below it each entry is the sum of the one above it and the one above to the left
pub record Pascal (rows : List Row) : Type 0 where
  pub first : (n : ℕ) → n ≤ 16 → cell rows n 0 ≡ 1
  pub top : (j : ℕ) → j < 16 → cell rows 0 (suc j) ≡ 0
  pub rule : (n j : ℕ) → n < 16 → j < 16 → cell rows (suc n) (suc j) ≡ cell rows n j + cell rows n (suc j)
