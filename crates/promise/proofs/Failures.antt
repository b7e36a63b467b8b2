-- The failures among the outcomes of a unit, which all have one instant. Assumes nothing.
use Rattle.std.proofs.Common.{◌≡◌, ℕ, zero, suc, ◌+◌, Bool, true, false, not, List, [], ◌∷◌, Some, None, Option, sym, refl, subst, inl, inr, arith}
use Rattle.std.specs.List.{AllByRecursion, slice_get}
use Rattle.std.proofs.ByRecursion.{All-append, All-weaker}
use Rattle.std.proofs.lemmas.Bool.{both_ways, cases_eq, or_parts, or_from}
use Rattle.model.specs.Ready.{Ready}
use Rattle.model.specs.Machine.{Row, Transit, State, Outcome, begun, arrivals, leave, drops, outcome, outcome_in, outcomes}
use Rattle.model.specs.Schedule.{after, given}
use Rattle.model.specs.Tally.{Failure}
use Rattle.model.specs.Forecast.{NeverFails, Failing}
use Rattle.laws.specs.Sound.{row_at}
use Rattle.laws.proofs.Dropping.{all_drops}
use Rattle.laws.proofs.Keeping.{begun_now, leave_now}
use Rattle.laws.proofs.Leaving.{leave_none, leave_later, leave_then}
use Rattle.rounds.specs.Boundaries.{failed}
use Rattle.promise.specs.Boundaries.{NoneFails}
use Rattle.promise.proofs.Schedules.{after_now}

pub fine_from : (os : List Outcome) → failed os ≡ false → NoneFails os
fine_from [] e = tt
fine_from (o ∷ os) e = let p = or_parts o.failure (failed os) e in (p.0, fine_from os p.1)

pub fine_tells : (os : List Outcome) → NoneFails os → failed os ≡ false
fine_tells [] h = refl
fine_tells (o ∷ os) h = or_from o.failure (failed os) h.0 (fine_tells os h.1)

-- what holds of all elements holds of one
pub all_nth : {X : Type 0} (P : X → Type 0) (xs : List X) (i : ℕ) (x : X) → AllByRecursion P xs → slice_get xs i ≡ Some x → P x
all_nth P [] i x h e = absurd (let z : ◌≡◌ {A = ℕ} 0 1 = cc in omega arith)
all_nth P (y ∷ xs) zero x h e = let same : y ≡ x = cc in subst P same h.0
all_nth P (y ∷ xs) (suc i) x h e = all_nth P xs i x h.1 e

-- ---- the instant of the outcomes of a unit

AtInstant : ℕ → Outcome → Type 0
AtInstant u o = o.instant ≡ u

arrived_at : (u i j : ℕ) (met : Bool) (o : Option Row) → AllByRecursion (AtInstant u) (outcome_in o (outcome u i j met))
unfolding AtInstant
arrived_at u i j met None = tt
arrived_at u i j met (Some r) = (refl, tt)

arrivals_at : (s : State) (o : Option Transit) → s.transit ≡ o → AllByRecursion (AtInstant s.now) (arrivals s)
arrivals_at s None e = subst (AllByRecursion (AtInstant s.now)) (sym (leave_none s e).1) tt
arrivals_at s (Some t) e = elim (cases_eq t.end s.now) [
  | inl then ↦
      subst (AllByRecursion (AtInstant s.now)) (sym (leave_then s t e then).1)
      (arrived_at s.now t.slot t.frame (not t.marked) (row_at s.rows t.slot))
  | inr later ↦ subst (AllByRecursion (AtInstant s.now)) (sym (leave_later s t e later).1) tt
]

module _ (before : Ready → Ready → Bool) (noisy : Bool) (s : State) where
  pub outcomes_at : AllByRecursion (λ o. o.instant ≡ s.now + 1) (outcomes before noisy s)
  unfolding outcomes AtInstant
  outcomes_at =
      let b : State = begun before noisy s in
      let x : State = leave b in
      All-append (AtInstant (s.now + 1)) (arrivals b) (drops x.now 0 x.rows)
      (subst (λ u. AllByRecursion (AtInstant u) (arrivals b)) (begun_now before noisy s) (arrivals_at b b.transit refl))
      (all_drops (AtInstant (s.now + 1)) x.now 0 x.rows (λ k r j e w l. leave_now before noisy s))

module _ (before : Ready → Ready → Bool) (s : State) where
  pub given_at : (n : ℕ) → AllByRecursion (λ o. o.instant ≡ s.now + n + 1) (given before s n)
  given_at n =
      let x : State = after before s n in
      All-weaker (λ (o : Outcome). o.instant ≡ x.now + 1) (λ (o : Outcome). o.instant ≡ s.now + n + 1)
      (λ o e. omega (arith, e, after_now before s n)) (given before s n) (outcomes_at before false x)

  -- a failure lies in no unit that has none
  pub not_there : (n : ℕ) → NoneFails (given before s n) → (i : ℕ) (o : Outcome) → slice_get (given before s n) i ≡ Some o → o.failure ≡ true → ⊥
  not_there n fine i o e failed = both_ways o.failure (all_nth (λ (x : Outcome). x.failure ≡ false) (given before s n) i o fine e) failed

  pub never_or_failing : NeverFails before s → (f : Failure) → Failing before s f → ⊥
  never_or_failing never f g = not_there g.units (never g.units) g.place g.outcome g.given_there g.failed
