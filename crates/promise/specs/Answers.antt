-- What a search has to find to give the answer of a forecast. Assumes nothing.
use Rattle.std.specs.Prelude.{◌≡◌, ℕ, ◌+◌, ◌<◌, ◌≤◌, Bool, true, ◌⊎◌, List, Some, ◌≢◌}
use Rattle.std.specs.List.{AllByRecursion, slice_get}
use Rattle.model.specs.Ready.{Ready}
use Rattle.model.specs.Machine.{State, Outcome}
use Rattle.model.specs.Schedule.{after}
use Rattle.model.specs.Tally.{Failure}
use Rattle.model.specs.Forecast.{units_to, at_boundary}
use Rattle.promise.specs.Boundaries.{Unfailing}

-- f is the failure that one of some outcomes is, and no other failure among them lies at an earlier instant, or in a lower slot at that instant
pub record FirstOf (os : List Outcome) (f : Failure) : Type 0 where
  pub place : ℕ
  pub outcome : Outcome
  pub stands : slice_get os place ≡ Some outcome
  pub failed : outcome.failure ≡ true
  pub slot : f.slot ≡ outcome.slot
  pub frame : f.frame ≡ outcome.frame
  pub instant : f.instant ≡ outcome.instant
  pub first : AllByRecursion (λ o. o.failure ≡ true → (f.instant < o.instant) ⊎ ((f.instant ≡ o.instant) × (f.slot ≤ o.slot))) os

module _ (before : Ready → Ready → Bool) (s : State) where
  -- x stands n quiet units after s, and none of them has a failure
  pub record Walked (n : ℕ) (x : State) : Type 0 where
    pub stands : x ≡ after before s n
    pub fine : Unfailing before s n

  -- what a first search finds: the histories at boundary met stand again lam boundaries later and not sooner, and no failure lies before that
  pub record Returns (met lam : ℕ) : Type 0 where
    pub forward : 0 < lam
    pub again : at_boundary before s met ≡ at_boundary before s (met + lam)
    pub no_sooner : (step : ℕ) → 0 < step → step < lam → at_boundary before s met ≢ at_boundary before s (met + step)
    pub unfailing : Unfailing before s (units_to s (met + lam))

  -- what a second search finds: mu is the first boundary whose histories stand again lam boundaries later
  pub record Begins (mu lam : ℕ) : Type 0 where
    pub again : at_boundary before s mu ≡ at_boundary before s (mu + lam)
    pub no_earlier : (i : ℕ) → i < mu → at_boundary before s i ≢ at_boundary before s (i + lam)
