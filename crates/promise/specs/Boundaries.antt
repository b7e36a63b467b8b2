-- The boundaries of the quiet schedule from a state, and that no failure lies before one of them. Assumes nothing.
use Rattle.std.specs.Prelude.{◌≡◌, ℕ, ◌+◌, ◌-◌, ◌*◌, ◌<◌, ◌≤◌, Bool, false, List}
use Rattle.std.specs.List.{AllByRecursion}
use Rattle.model.specs.Tables.{Divides, histories}
use Rattle.model.specs.Ready.{Ready}
use Rattle.model.specs.Machine.{State, Outcome}
use Rattle.model.specs.Schedule.{after, given}
use Rattle.model.specs.Forecast.{table_of, period_of, units_to, at_boundary}
use Rattle.rounds.specs.Boundaries.{Idle, Agrees}

-- none of the outcomes is a dynamic failure
abbrev pub NoneFails : List Outcome → Type 0
NoneFails os = AllByRecursion (λ o. o.failure ≡ false) os

module _ (before : Ready → Ready → Bool) (s : State) where
  -- no outcome of the first n units is a dynamic failure
  abbrev pub Unfailing : ℕ → Type 0
  Unfailing n = (k : ℕ) → k < n → NoneFails (given before s k)

  -- where the quiet schedule stands at boundary i
  abbrev pub boundary : ℕ → State
  boundary i = after before s (units_to s i)

  -- at boundary i: the hyper-period divides the instant, nothing waits and nothing is in transit, and the table is that of s
  pub record Boundary (i : ℕ) : Type 0 where
    pub instant : (boundary i).now ≡ s.now + units_to s i
    pub multiple : Divides (period_of s) (boundary i).now
    pub idle : Idle (table_of s) (boundary i)

  -- the schedules from boundary i and from the later boundary j agree in every unit, as many hyper-periods apart as there are between them
  abbrev pub AlikeFrom : ℕ → ℕ → Type 0
  AlikeFrom i j = (n : ℕ) → Agrees before ((j - i) * period_of s) (boundary i) (boundary j) n

  -- two different boundaries from 1 to N + 1 with all histories equal
  pub record AgreeWithin : Type 0 where
    pub first : ℕ
    pub second : ℕ
    pub some : 1 ≤ first
    pub apart : first < second
    pub within : second ≤ histories (table_of s) + 1
    pub same : at_boundary before s first ≡ at_boundary before s second

  -- the histories at boundary met stand again within N boundaries
  pub record AgainWithin (met : ℕ) : Type 0 where
    pub step : ℕ
    pub forward : 0 < step
    pub within : step ≤ histories (table_of s)
    pub again : at_boundary before s met ≡ at_boundary before s (met + step)
