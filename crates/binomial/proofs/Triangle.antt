-- Pascal's rule of a whole table from one test that is computed, and the binomial coefficients from the rule. Assumes nothing.
use Rattle.std.proofs.Common.{◌≡◌, ℕ, zero, suc, ◌+◌, ◌<◌, ◌≤◌, ◌⊎◌, Bool, true, ◌&&◌, eqb, List, [], length, get_or, Decides, sym, refl, ap, ◌∙◌, ap₂, inl, inr, arith}
use Rattle.std.proofs.lemmas.Bool.{cases_lt}
use Rattle.std.proofs.lemmas.Bool.Decides.{Decides-and, Decides-eqb, Decides-below_and}
use Rattle.std.proofs.lemmas.List.{get_or_past}
use Rattle.binomial.specs.declared.Row.{Row}
use Rattle.binomial.specs.Choose.{choose}
use Rattle.binomial.specs.Pascal.{cell, Pascal}
use Rattle.binomial.proofs.Sums.{choose_past}

-- a test passes at each number below n
abbrev pub below : (ℕ → Bool) → ℕ → Bool
below test zero = true
below test (suc n) = test n && below test n

below_decides : (test : ℕ → Bool) (P : ℕ → Type 0) → ((k : ℕ) → Decides (test k) (P k)) → (n : ℕ) → Decides (below test n) ((k : ℕ) → k < n → P k)
below_decides test P each = Decides-below_and test P (below test) each refl (λ _. refl)

-- Pascal's rule as one test of the whole table
abbrev pub pascal_test : List Row → Bool
pascal_test rows =
    below (λ n. eqb (cell rows n 0) 1) 17
    && (below (λ j. eqb (cell rows 0 (suc j)) 0) 16
    && below (λ n. below (λ j. eqb (cell rows (suc n) (suc j)) (cell rows n j + cell rows n (suc j))) 16) 16)

-- a table that passes it has the rule in each of its cells
pub tested : (rows : List Row) → pascal_test rows ≡ true → Pascal rows
tested rows passed =
    let parts =
    (Decides-and _ _ (below_decides _ _ (λ n. Decides-eqb (cell rows n 0) 1) 17)
    (Decides-and _ _ (below_decides _ _ (λ j. Decides-eqb (cell rows 0 (suc j)) 0) 16)
    (below_decides _ _ (λ n. below_decides _ _ (λ j. Decides-eqb (cell rows (suc n) (suc j)) (cell rows n j + cell rows n (suc j))) 16) 16))
    ).0 passed in
    record { first = λ n l. parts.0 n (omega arith); top = parts.1.0; rule = λ n j ln. parts.1.1 n ln j }

-- so what stands in the table is the binomial coefficient
pub cell_chooses : (rows : List Row) → Pascal rows → (n j : ℕ) → n ≤ 16 → j ≤ 16 → cell rows n j ≡ choose n j
unfolding choose
cell_chooses rows p n zero ln lj = p.first n ln
cell_chooses rows p zero (suc j) ln lj = p.top j (omega arith)
cell_chooses rows p (suc n) (suc j) ln lj =
    p.rule n j (omega arith) (omega arith)
    ∙ ap₂ ◌+◌ (cell_chooses rows p n j (omega arith) (omega arith)) (cell_chooses rows p n (suc j) (omega arith) lj)

-- and so of a row by itself, also past its last place
pub row_chooses : (rows : List Row) → Pascal rows → (n j : ℕ) (r : Row) → n ≤ 16 → length r.entries ≡ 17 → r ≡ get_or rows n (record { entries = [] }) → get_or r.entries j 0 ≡ choose n j
row_chooses rows p n j r there wide is = by (cases_lt 16 j)
  where
    by : (16 < j) ⊎ (j ≤ 16) → get_or r.entries j 0 ≡ choose n j
    by (inl past) = get_or_past r.entries j 0 (omega arith) ∙ sym (choose_past n j (omega arith))
    by (inr within) = ap (λ x. get_or x.entries j 0) is ∙ cell_chooses rows p n j there within
