-- What the parts of the search for a forecast find, or the failure that ends it. Assumes nothing.
use Rattle.std.specs.Prelude.{◌≡◌, ℕ, ◌-◌, ◌*◌, ◌≤◌, Bool, true, false, Ok, Err, Result}
use Rattle.model.specs.Tables.{Divides, histories}
use Rattle.model.specs.Ready.{Ready}
use Rattle.model.specs.Machine.{State}
use Rattle.model.specs.Forecast.{table_of, period_of, units_to, Holds, Fails}
use Rattle.promise.specs.Answers.{Walked, Returns}
use Rattle.bus.specs.Machines.{failure_note, state_of}
use Rattle.bus.specs.declared.failure.Failure.{Failure}
use Rattle.bus.specs.declared.machine.Machine.{Machine}
use Rattle.bench.specs.declared.answer.Forecast as answer
use Rattle.bench.specs.declared.answer.Forecast.TheVariants as answers
use Rattle.bench.specs.declared.search.round.Round.{Round}

-- the last instant of the machine
abbrev pub machine_limit : ℕ
machine_limit = 2199023255552

-- what is foretold by the round or the failure that a search finds
abbrev pub forecast_of : Result Round Failure → answer.Forecast
forecast_of (Ok r) = answers.Holds r.from r.to
forecast_of (Err f) = answers.Fails f

-- r is whether x and y are the same
abbrev pub Same : {X : Type 0} → Bool → X → X → Type 0
Same true x y = x ≡ y
Same false x y = x ≡ y → ⊥

-- a state at a boundary of its own schedule, with its hyper-period, from which a search does not come to the last instant of the machine
pub record Searchable (s : State) (period : ℕ) : Type 0 where
  pub on : Divides (period_of s) s.now
  pub is : period ≡ period_of s
  pub short : period_of s ≤ 36864
  pub few : histories (table_of s) ≤ 1048576
  pub early : s.now ≤ 1099511664640

module _ (before : Ready → Ready → Bool) (s : State) where
  -- n quiet units lead to x, or one of them fails
  abbrev pub Walks : ℕ → State → Result (Unit {0}) Failure → Type 0
  Walks n x (Ok u) = Walked before s n x
  Walks n x (Err f) = Fails before s (failure_note f)

  -- the schedule comes to its first boundary, from where it can be searched
  abbrev pub FirstFound : ℕ → Result Machine Failure → Type 0
  FirstFound period (Ok m) = Walked before s (units_to s 0) (state_of m) × Searchable (state_of m) period
  FirstFound period (Err f) = Fails before s (failure_note f)

  -- histories stand again, soon enough
  abbrev pub RoundFound : Result Round Failure → Type 0
  RoundFound (Ok r) = Returns before s r.from (r.to - r.from) × (r.to ≤ 3 * histories (table_of s))
  RoundFound (Err f) = Fails before s (failure_note f)

  -- the forecast holds with the two boundaries of a round
  abbrev pub EarliestFound : Result Round Failure → Type 0
  EarliestFound (Ok r) = Holds before s r.from r.to
  EarliestFound (Err f) = Fails before s (failure_note f)
