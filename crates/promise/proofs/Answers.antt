-- From every sound state some answer tells what the schedule does. Assumes nothing.
use Rattle.std.proofs.Common.{◌≡◌, ℕ, zero, suc, ◌+◌, ◌-◌, ◌<◌, ◌≤◌, Bool, true, ◌⊎◌, [], ◌∷◌, Some, None, Option, refl, ap, ◌∙◌, subst, ap₂, inl, inr, arith}
use Rattle.std.proofs.lemmas.Bool.{both_ways, cases_Bool, cases_eq}
use Rattle.model.specs.Tables.{histories}
use Rattle.model.specs.Ready.{Ready}
use Rattle.model.specs.Machine.{State}
use Rattle.model.specs.Schedule.{given}
use Rattle.model.specs.Tally.{Failure, first_failure}
use Rattle.model.specs.Forecast.{table_of, units_to, at_boundary}
use Rattle.laws.specs.Sound.{Sound}
use Rattle.rounds.specs.Boundaries.{failed}
use Rattle.rounds.specs.Passing.{Bits}
use Rattle.promise.specs.Boundaries.{Unfailing, AgreeWithin}
use Rattle.model.specs.Forecast.{Answer, Tells}
use Rattle.promise.specs.Answers.{Returns}
use Rattle.model.specs.Forecast.Answer.{holds, fails}
use Rattle.promise.proofs.Passing.{units_rise, some_agree}
use Rattle.promise.proofs.Failures.{fine_from, fine_tells}
use Rattle.promise.proofs.Firsts.{first_picked, none_picked}
use Rattle.promise.proofs.Found.{found_holds}
use Rattle.promise.proofs.Runs.{first_fails}

-- ---- the least number with a property that can be decided

module _ (P : ℕ → Type 0) (decide : (n : ℕ) → P n ⊎ (P n → ⊥)) where
  -- one below n has it, or none does
  least_below : (n : ℕ) → ((m : ℕ) × (m < n) × P m × ((i : ℕ) → i < m → P i → ⊥)) ⊎ ((i : ℕ) → i < n → P i → ⊥)
  least_below zero = inr (λ i l h. omega arith)
  least_below (suc n) = elim (least_below n) [
    | inl (m, l, h, none) ↦ inl (m, omega arith, h, none)
    | inr none ↦ elim (decide n) [
      | inl here ↦ inl (n, omega arith, here, none)
      | inr not-here ↦ inr (λ i l h. elim (cases_eq i n) [ inl same ↦ not-here (subst P same h) | inr other ↦ none i (omega arith) h ])
    ]
  ]

  least : (n : ℕ) → P n → (m : ℕ) × (m ≤ n) × P m × ((i : ℕ) → i < m → P i → ⊥)
  least n h = elim (least_below (suc n)) [
    | inl (m, l, k, none) ↦ (m, omega arith, k, none)
    | inr none ↦ absurd (none n (omega arith) h)
  ]

-- histories are equal or not
same_or_not : (xs ys : Bits) → (xs ≡ ys) ⊎ (xs ≡ ys → ⊥)
same_or_not [] [] = inl refl
same_or_not [] (y ∷ ys) = inr (λ e. let z : ◌≡◌ {A = ℕ} 0 1 = cc in omega arith)
same_or_not (x ∷ xs) [] = inr (λ e. let z : ◌≡◌ {A = ℕ} 0 1 = cc in omega arith)
same_or_not (None ∷ xs) (None ∷ ys) = elim (same_or_not xs ys) [ inl e ↦ inl (ap (λ zs. None ∷ zs) e) | inr ne ↦ inr (λ e. ne (cc)) ]
same_or_not (None ∷ xs) (Some y ∷ ys) = inr (λ e. let z : ◌≡◌ {A = ℕ} 0 1 = cc in omega arith)
same_or_not (Some x ∷ xs) (None ∷ ys) = inr (λ e. let z : ◌≡◌ {A = ℕ} 0 1 = cc in omega arith)
same_or_not (Some x ∷ xs) (Some y ∷ ys) = elim (cases_eq x y) [
  | inl head ↦ elim (same_or_not xs ys) [ inl e ↦ inl (ap₂ (λ v zs. Some v ∷ zs) head e) | inr ne ↦ inr (λ e. ne (cc)) ]
  | inr ne ↦ inr (λ e. ne (cc))
]

-- ---- some answer tells

module _ (before : Ready → Ready → Bool) (s : State) (h : Sound s) where
  -- the first unit that has a failure
  unit_fails : (n : ℕ) → Unfailing before s n → failed (given before s n) ≡ true → (r : Option Failure) → first_failure (given before s n) ≡ r
      → (a : Answer) × Tells before s a
  unit_fails n fine e None none =
      absurd (both_ways (failed (given before s n)) (fine_tells (given before s n) (none_picked (given before s n) none)) e)
  unit_fails n fine e (Some f) some = (fails f, first_fails before s n f fine (first_picked (given before s n) f some))

  -- the first of the boundaries that agree
  pair_found : AgreeWithin before s → Unfailing before s (units_to s (histories (table_of s) + 1)) → (a : Answer) × Tells before s a
  pair_found r fine =
      let f : ℕ → Bits = at_boundary before s in
      let a : ℕ = r.first in
      let b : ℕ = r.second in
      let apart : a < b = r.apart in
      let within : b ≤ histories (table_of s) + 1 = r.within in
      let whole : b ≡ a + (b - a - 1 + 1) = omega arith in
      let step = least (λ k. f a ≡ f (a + (k + 1))) (λ k. same_or_not (f a) (f (a + (k + 1)))) (b - a - 1) (r.same ∙ ap f whole) in
      let lam : ℕ = step.0 + 1 in
      let short : step.0 ≤ b - a - 1 = step.1 in
      let start = least (λ i. f i ≡ f (i + lam)) (λ i. same_or_not (f i) (f (i + lam))) a step.2 in
      let mu : ℕ = start.0 in
      let returns : Returns before s a lam = record {
        forward = omega arith;
        again = step.2;
        no_sooner = λ k some less e.
            let back : k ≡ k - 1 + 1 = omega arith in
            step.3 (k - 1) (omega arith) (e ∙ ap (λ n. f (a + n)) back);
        unfailing = λ k l. fine k (omega (arith, units_rise s (a + lam) (histories (table_of s) + 1) (omega arith)));
      } in
      (holds mu (mu + lam), found_holds before s h a mu lam returns (record { again = start.2; no_earlier = start.3 }))

  pub some_answer : (a : Answer) × Tells before s a
  some_answer =
      let n : ℕ = units_to s (histories (table_of s) + 1) in
      let fails_in = λ (k : ℕ). failed (given before s k) ≡ true in
      let or-not : (k : ℕ) → fails_in k ⊎ (fails_in k → ⊥) = λ k. elim (cases_Bool (failed (given before s k))) [
        | inl yes' ↦ inl yes'
        | inr no' ↦ inr (λ e. both_ways (failed (given before s k)) no' e)
      ] in
      let fine : (m : ℕ) → ((i : ℕ) → i < m → fails_in i → ⊥) → Unfailing before s m = λ m none i l. elim (cases_Bool (failed (given before s i))) [
        | inl yes' ↦ absurd (none i l yes')
        | inr no' ↦ fine_from (given before s i) no'
      ] in
      elim (least_below fails_in or-not n) [
        | inl (m, l, e, none) ↦ unit_fails m (fine m none) e (first_failure (given before s m)) refl
        | inr none ↦ pair_found (some_agree before s h (fine n none)) (fine n none)
      ]
