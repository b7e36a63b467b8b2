-- Once the histories at two boundaries agree and nothing has failed, nothing ever fails. Assumes nothing.
use Rattle.std.proofs.Common.{◌≡◌, ℕ, ◌+◌, ◌-◌, ◌/◌, ◌%◌, ◌<◌, Bool, sym, ap, ◌∙◌, subst, inl, inr, mod-lt, div-add-mod', arith}
use Rattle.std.proofs.lemmas.Bool.{cases_lt}
use Rattle.model.specs.Ready.{Ready}
use Rattle.model.specs.Machine.{State}
use Rattle.model.specs.Schedule.{given}
use Rattle.model.specs.Forecast.{period_of, units_to, at_boundary, NeverFails}
use Rattle.laws.specs.Sound.{Sound}
use Rattle.rounds.specs.Boundaries.{failed}
use Rattle.rounds.proofs.Rounds.{holds_always}
use Rattle.promise.specs.Boundaries.{NoneFails, Unfailing}
use Rattle.promise.proofs.Boundaries.{period_positive, units_next, units_are, alike_from, boundaries_told}
use Rattle.promise.proofs.Passing.{units_rise}
use Rattle.promise.proofs.Further.{given_more}
use Rattle.promise.proofs.Failures.{fine_from, fine_tells}

module _ (before : Ready → Ready → Bool) (s : State) (h : Sound s) where
  -- no failure lies between boundary i and the next
  RoundFine : ℕ → Type 0
  RoundFine i = (n : ℕ) → n < period_of s → NoneFails (given before s (units_to s i + n))

  -- boundaries with equal histories share that
  failures_same : (i j n : ℕ) → at_boundary before s i ≡ at_boundary before s j
      → failed (given before s (units_to s i + n)) ≡ failed (given before s (units_to s j + n))
  failures_same i j n e =
      let here = λ (k : ℕ). ap failed (given_more before s (units_to s k) n) in
      here i
      ∙ elim (cases_lt j i) [
        | inl less ↦ (alike_from before s h j i (omega arith) (sym e) n).failures
        | inr le ↦ sym (alike_from before s h i j le e n).failures
      ]
      ∙ sym (here j)

  round_shared : (i j : ℕ) → at_boundary before s i ≡ at_boundary before s j → RoundFine i → RoundFine j
  unfolding RoundFine
  round_shared i j e fine n l =
      fine_from (given before s (units_to s j + n))
      (sym (failures_same i j n e) ∙ fine_tells (given before s (units_to s i + n)) (fine n l))

  pub never_fails : (a b : ℕ) → a < b → at_boundary before s a ≡ at_boundary before s b → Unfailing before s (units_to s b) → NeverFails before s
  unfolding RoundFine
  never_fails a b less e fine =
      let p : ℕ = period_of s in
      let some : 0 < p = period_positive s h in
      let rounds : (i : ℕ) → RoundFine i =
      holds_always (at_boundary before s) (boundaries_told before s h) a b less e RoundFine round_shared (λ i l n low.
      fine (units_to s i + n) (omega (arith, units_next s i, units_rise s (i + 1) b (omega arith)))) in
      λ n. elim (cases_lt n (units_to s 0)) [
        | inl low ↦ fine n (omega (arith, units_rise s 0 b (omega arith)))
        | inr high ↦
            let far : ℕ = n - units_to s 0 in
            let i : ℕ = far / p in
            let place : units_to s i + far % p ≡ n = omega (arith, units_are s i, div-add-mod' far p) in
            subst (λ k. NoneFails (given before s k)) place (rounds i (far % p) (mod-lt far some))
      ]
