-- Binomial coefficients, and the count of numbers with at least m ones among k bits. Assumes nothing.
use Rattle.std.specs.Prelude.{◌≡◌, ℕ, zero, suc, ◌+◌, ◌-◌, ◌^◌, Bool, cond, count_ones, nat_le}

-- n over j, by Pascal's rule
unfoldable pub choose : ℕ → ℕ → ℕ
choose n zero = 1
choose zero (suc j) = 0
choose (suc n) (suc j) = choose n j + choose n (suc j)

-- the sum of (n over j) for as many j as there are terms, from the first one on
unfoldable pub choices : ℕ → ℕ → ℕ → ℕ
choices n zero first = 0
choices n (suc terms) first = choose n first + choices n terms (suc first)

-- the sum of (k over j) for j from m to k
unfoldable pub at_least : ℕ → ℕ → ℕ
at_least k m = choices k (k + 1 - m) m

-- how many of the numbers below n pass a test
unfoldable pub count : (ℕ → Bool) → ℕ → ℕ
count test zero = 0
count test (suc n) = cond (test n) 1 0 + count test n

-- the sums count: of the numbers of k bits, `at_least k m` have at least m ones
abbrev pub SumsCount : Type 0
SumsCount = (k m : ℕ) → count (λ h. nat_le m (count_ones h)) (2 ^ k) ≡ at_least k m
