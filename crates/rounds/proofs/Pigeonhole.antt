-- n + 1 numbers below n: two of them are equal. Assumes nothing.
use Rattle.std.proofs.Common.{◌≡◌, ℕ, zero, suc, ◌-◌, ◌<◌, ◌≤◌, cond, ltb, ◌⊎◌, sym, ap, ◌∙◌, inl, inr, arith}
use Rattle.std.proofs.lemmas.Bool.{cases_eq}
use Rattle.std.proofs.lemmas.Bool.Decides.{nat_tests}
use Rattle.rounds.specs.Passing.{Twice}

-- a number stands at one of the first n places, or at none
stands : (f : ℕ → ℕ) (v n : ℕ) → ((i : ℕ) × (i < n) × (f i ≡ v)) ⊎ ((i : ℕ) → i < n → f i ≡ v → ⊥)
stands f v zero = inr (λ i l e. omega arith)
stands f v (suc n) = elim (cases_eq (f n) v) [
  | inl here ↦ inl (n, omega arith, here)
  | inr other ↦ elim (stands f v n) [
    | inl (i, l, e) ↦ inl (i, omega arith, e)
    | inr none ↦ inr (λ i l e. elim (cases_eq i n) [ inl last ↦ other (ap f (sym last) ∙ e) | inr less ↦ none i (omega arith) e ])
  ]
]

-- the numbers other than v, with no gap at v
without : ℕ → ℕ → ℕ
without v x = cond (ltb v x) (x - 1) x

without_low : (v x n : ℕ) → v < suc n → x < suc n → (x ≡ v → ⊥) → without v x < n
unfolding without
without_low v x n lv lx other = grind (arith, nat_tests)

without_same : (v x y : ℕ) → (x ≡ v → ⊥) → (y ≡ v → ⊥) → without v x ≡ without v y → x ≡ y
unfolding without
without_same v x y ox oy e = grind (arith, nat_tests)

pub pigeonhole : (n : ℕ) (f : ℕ → ℕ) → ((i : ℕ) → i ≤ n → f i < n) → Twice f n
pigeonhole zero f low = absurd (omega (arith, low 0 (omega arith)))
pigeonhole (suc n) f low =
    let v : ℕ = f (suc n) in
    elim (stands f v (suc n)) [
      | inl (i, l, e) ↦ record { first = i; second = suc n; apart = l; within = omega arith; same = e }
      | inr none ↦
          let g : ℕ → ℕ = λ i. without v (f i) in
          let r : Twice g n =
          pigeonhole n g (λ i l. without_low v (f i) n (low (suc n) (omega arith)) (low i (omega arith)) (none i (omega arith))) in
          let apart : r.first < r.second = r.apart in
          let within : r.second ≤ n = r.within in
          record {
            first = r.first;
            second = r.second;
            apart = apart;
            within = omega arith;
            same = without_same v (f r.first) (f r.second) (none r.first (omega arith)) (none r.second (omega arith)) r.same;
          }
    ]
