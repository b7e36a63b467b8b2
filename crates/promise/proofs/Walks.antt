-- Quiet units one after the other, up to the first that fails. Assumes nothing.
use Rattle.std.proofs.Common.{◌≡◌, ℕ, ◌+◌, Bool, false, Some, None, sym, refl, ap, ◌∙◌, subst, inl, inr, add-one, arith}
use Rattle.std.proofs.lemmas.Bool.{cases_eq}
use Rattle.model.specs.Ready.{Ready}
use Rattle.model.specs.Machine.{State, unit, outcomes}
use Rattle.model.specs.Schedule.{after, given}
use Rattle.model.specs.Tally.{Failure, first_failure}
use Rattle.model.specs.Forecast.{Fails}
use Rattle.promise.specs.Boundaries.{NoneFails}
use Rattle.promise.specs.Answers.{FirstOf, Walked}
use Rattle.promise.proofs.Firsts.{first_picked, none_picked}
use Rattle.promise.proofs.Runs.{first_fails}
use Rattle.promise.proofs.Schedules.{after_now}

module _ (before : Ready → Ready → Bool) (s : State) where
  pub walk_none : Walked before s 0 s
  unfolding after
  walk_none = record { stands = refl; fine = λ k l. absurd (omega arith) }

  module _ (n : ℕ) (x : State) (w : Walked before s n x) where
    pub walk_now : x.now ≡ s.now + n
    walk_now = ap (λ (y : State). y.now) w.stands ∙ after_now before s n

    pub walk_on : first_failure (outcomes before false x) ≡ None → Walked before s (n + 1) (unit before false x)
    unfolding after
    walk_on none = rw add-one (record {
      stands = ap (unit before false) w.stands;
      fine = λ k l. elim (cases_eq k n) [
        | inl same ↦ subst (λ i. NoneFails (given before s i)) (sym same) (subst (λ y. NoneFails (outcomes before false y)) w.stands (none_picked (outcomes before false x) none))
        | inr other ↦ w.fine k (omega arith)
      ];
    })

    pub walk_fails : (f : Failure) → first_failure (outcomes before false x) ≡ Some f → Fails before s f
    walk_fails f some =
        first_fails before s n f w.fine (subst (λ y. FirstOf (outcomes before false y) f) w.stands (first_picked (outcomes before false x) f some))
