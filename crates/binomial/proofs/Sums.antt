-- The sums of binomial coefficients from some place on: Pascal's rule of the sums, and when they are 0. Assumes nothing.
use Rattle.std.proofs.Common.{◌≡◌, ℕ, zero, suc, pred, ◌+◌, ◌-◌, ◌<◌, ◌≤◌, ◌⊎◌, List, [], ◌∷◌, length, get_or, sum, sym, refl, ap, ◌∙◌, ap₂, inl, inr, not-suc-le-zero, arith}
use Rattle.std.proofs.lemmas.Bool.{cases_lt}
use Rattle.std.proofs.lemmas.List.Sums.{sum_by-cons}
use Rattle.binomial.specs.Choose.{choose, choices, at_least}

-- past the diagonal every coefficient is 0
pub choose_past : (n j : ℕ) → n < j → choose n j ≡ 0
unfolding choose
choose_past n zero h = absurd (not-suc-le-zero h)
choose_past zero (suc j) h = refl
choose_past (suc n) (suc j) h = ap₂ ◌+◌ (choose_past n j (omega arith)) (choose_past n (suc j) (omega arith))

-- Pascal's rule, summed
choices_rule : (n terms first : ℕ) → choices (suc n) terms (suc first) ≡ choices n terms first + choices n terms (suc first)
unfolding choose choices
choices_rule n zero first = refl
choices_rule n (suc terms) first = omega (arith, choices_rule n terms (suc first))

-- k bits have no more than k ones
pub at_least_past : (k m : ℕ) → k < m → at_least k m ≡ 0
unfolding choices at_least
at_least_past k m h = let none : k + 1 - m ≡ 0 = omega arith in ap (λ t. choices k t m) none

-- the first term, and the rest
pub at_least_step : (k m : ℕ) → at_least k m ≡ choose k m + at_least k (suc m)
unfolding choices at_least
at_least_step k m = by (cases_lt k m)
  where
    by : (k < m) ⊎ (m ≤ k) → at_least k m ≡ choose k m + at_least k (suc m)
    by (inl h) = at_least_past k m h ∙ sym (ap₂ ◌+◌ (choose_past k m h) (at_least_past k (suc m) (omega arith)))
    by (inr h) = let more : k + 1 - m ≡ suc (k + 1 - suc m) = omega arith in ap (λ t. choices k t m) more

-- terms past the diagonal add nothing
choices_enough : (n terms first : ℕ) → n < terms + first → choices n terms first ≡ at_least n first
unfolding choices
choices_enough n zero first h = sym (at_least_past n first (omega arith))
choices_enough n (suc terms) first h =
    ap (λ x. choose n first + x) (choices_enough n terms (suc first) (omega arith)) ∙ sym (at_least_step n first)

-- the coefficients of a row from some place on, those past its last place being 0, add up to the sum
pub rest_sums : (k : ℕ) (xs : List ℕ) (first : ℕ) → ((j : ℕ) → get_or xs j 0 ≡ choose k (first + j)) → k < first + length xs → sum xs ≡ at_least k first
rest_sums k [] first each past = sym (at_least_past k first (omega arith))
rest_sums k (x ∷ xs) first each past =
    let more : sum xs ≡ at_least k (suc first) =
    rest_sums k xs (suc first) (λ j. each (suc j) ∙ ap (choose k) (omega arith)) (omega arith) in
    let here : x ≡ choose k first = each 0 ∙ ap (choose k) (omega arith) in
    omega (arith, at_least_step k first, sum_by-cons (λ n. n) x xs)

-- with one bit more, m + 1 ones are that bit and m others, or m + 1 others
next_bit : (k m : ℕ) → at_least (suc k) (suc m) ≡ at_least k m + at_least k (suc m)
next_bit k m =
    sym (choices_enough (suc k) (suc k) (suc m) (omega arith)) ∙ choices_rule k (suc k) m
    ∙ ap₂ ◌+◌ (choices_enough k (suc k) m (omega arith)) (choices_enough k (suc k) (suc m) (omega arith))

-- Pascal's rule of the sums, where no ones are wanted too
pub at_least_rule : (k m : ℕ) → at_least (suc k) m ≡ at_least k (pred m) + at_least k m
unfolding choose
at_least_rule k zero = omega (arith, at_least_step (suc k) 0, next_bit k 0, at_least_step k 0)
at_least_rule k (suc m) = next_bit k m

-- some number of k bits has at least m ones, where m is at most k
pub at_least_positive : (k m : ℕ) → m ≤ k → 1 ≤ at_least k m
unfolding choose
at_least_positive k zero h = omega (arith, at_least_step k 0)
at_least_positive zero (suc m) h = absurd (not-suc-le-zero h)
at_least_positive (suc k) (suc m) h = omega (arith, next_bit k m, at_least_positive k m (omega arith))
