-- The figures of a forecast that holds: what the quiet schedule does from one of its two boundaries to the other. Assumes nothing.
use Rattle.std.specs.Prelude.{◌≡◌, ℕ, zero, suc, ◌+◌, ◌-◌, ◌*◌, ◌/◌, Bool, false, cond, not, List, replicate, is_some, Some, None, Option}
use Rattle.model.specs.Ready.{Ready}
use Rattle.model.specs.Machine.{State, Outcome, release, start}
use Rattle.model.specs.Schedule.{after, ran}
use Rattle.model.specs.Tally.{Failure, how_many}
use Rattle.model.specs.Forecast.{units_to, Tells}
use Rattle.model.specs.Forecast.Answer.{holds, fails}

-- of some units: how many they are, how many are busy, how many outcomes are met and missed, and the load,
-- which is the busy units in a thousand, rounded down
pub record Figures : Type 0 where
  pub length : ℕ
  pub busy : ℕ
  pub met : ℕ
  pub missed : ℕ
  pub load : ℕ

module _ (before : Ready → Ready → Bool) where
  -- the unit from a state is busy: a frame is in transit at its third step
  abbrev pub busy : State → Bool
  busy s = is_some (start before (release s)).transit

  -- how many of n units of the quiet schedule, from unit k on, are busy
  unfoldable pub busy_units : State → ℕ → ℕ → ℕ
  busy_units s k zero = 0
  busy_units s k (suc n) = busy_units s k n + cond (busy (after before s (k + n))) 1 0

  -- the outcomes of n units of the quiet schedule, from unit k on
  abbrev pub given_over : State → ℕ → ℕ → List Outcome
  given_over s k n = ran before (after before s k) (replicate n false)

  -- the figures of n units of the quiet schedule, from unit k on
  unfoldable pub figures_over : State → ℕ → ℕ → Figures
  figures_over s k n = record {
    length = n;
    busy = busy_units s k n;
    met = how_many (λ o. o.met) (given_over s k n);
    missed = how_many (λ o. not o.met) (given_over s k n);
    load = 1000 * busy_units s k n / n;
  }

  -- the figures of the units from boundary i to boundary j
  abbrev pub figures : State → ℕ → ℕ → Figures
  figures s i j = figures_over s (units_to s i) (units_to s j - units_to s i)

-- the figures of the forecast from a state: those from boundary to boundary if it holds, and none if it fails
pub record Measures (before : Ready → Ready → Bool) (s : State) (r : Option Figures) : Type 0 where
  pub holding : (i j : ℕ) → Tells before s (holds i j) → r ≡ Some (figures before s i j)
  pub failing : (f : Failure) → Tells before s (fails f) → r ≡ None
