-- The promise. What a forecast says of the quiet schedule from a state: that it never has a dynamic failure, with two boundaries between
-- which it comes round, or its first failure; and of which state it speaks after any list of calls of a bench. Assumes nothing.
use Rattle.std.specs.Prelude.{◌≡◌, ℕ, ◌+◌, ◌-◌, ◌*◌, ◌%◌, ◌<◌, ◌≤◌, Bool, true, false, ◌⊎◌, List, map, Some, Option}
use Rattle.std.specs.Option.{option_map}
use Rattle.std.specs.List.{AllByRecursion, slice_get}
use Rattle.model.specs.Tables.{Table, hyper_period, histories}
use Rattle.model.specs.Ready.{Ready}
use Rattle.model.specs.Machine.{State, Outcome}
use Rattle.model.specs.Schedule.{after, given}
use Rattle.model.specs.Tally.{Failure}
use Rattle.model.specs.Bench.{Call, plain}
use Rattle.model.specs.Bench.Plain.{running}

-- the table of a state: the streams of its rows
abbrev pub table_of : State → Table
table_of s = map (option_map (λ r. r.stream)) s.rows

-- the histories of a state, slot by slot
abbrev pub histories_of : State → List (Option ℕ)
histories_of s = map (option_map (λ r. r.bits)) s.rows

-- the hyper-period of a state's table
abbrev pub period_of : State → ℕ
period_of s = hyper_period (table_of s)

-- how many units lie between a state and boundary i of its schedule: the boundaries are the multiples of the hyper-period,
-- numbered from 0, beginning with the first that is not below now
unfoldable pub units_to : State → ℕ → ℕ
units_to s i = (period_of s - s.now % period_of s) % period_of s + i * period_of s

module _ (before : Ready → Ready → Bool) (s : State) where
  -- the histories at boundary i of the quiet schedule
  unfoldable pub at_boundary : ℕ → List (Option ℕ)
  at_boundary i = histories_of (after before s (units_to s i))

  -- no outcome of the quiet schedule is a dynamic failure
  abbrev pub NeverFails : Type 0
  NeverFails = (n : ℕ) → AllByRecursion (λ o. o.failure ≡ false) (given before s n)

  -- the forecast holds, with two boundaries: all histories agree at these two and at no other two up to the later
  pub record Holds (i j : ℕ) : Type 0 where
    pub never : NeverFails
    pub apart : i < j
    pub agree : at_boundary i ≡ at_boundary j
    pub only : (a b : ℕ) → a < b → b ≤ j → at_boundary a ≡ at_boundary b → (a ≡ i) × (b ≡ j)
    pub bound : j ≤ histories (table_of s) + 1

  -- a dynamic failure of the quiet schedule
  pub record Failing (f : Failure) : Type 0 where
    pub units : ℕ
    pub place : ℕ
    pub outcome : Outcome
    pub given_there : slice_get (given before s units) place ≡ Some outcome
    pub failed : outcome.failure ≡ true
    pub slot : f.slot ≡ outcome.slot
    pub frame : f.frame ≡ outcome.frame
    pub instant : f.instant ≡ outcome.instant

  -- the forecast fails, with the first failure: none lies at an earlier instant, nor in a lower slot at that instant
  pub record Fails (f : Failure) : Type 0 where
    pub is : Failing f
    pub first : (g : Failure) → Failing g → (f.instant < g.instant) ⊎ ((f.instant ≡ g.instant) × (f.slot ≤ g.slot))

-- an answer: the forecast holds, with two boundaries, or fails, with a failure
pub data Answer : Type 0 where
  holds : ℕ → ℕ → Answer
  fails : Failure → Answer

-- the answer is true of the quiet schedule from a state
abbrev pub Tells : (Ready → Ready → Bool) → State → Answer → Type 0
Tells before s (holds i j) = Holds before s i j
Tells before s (fails f) = Fails before s f

-- the answer is true after a list of calls that leaves the bench running: it tells of the quiet schedule from where the plain bench,
-- given the same calls, then stands
abbrev pub Foretells : (Ready → Ready → Bool) → List Call → Answer → Type 0
Foretells before calls a = (t : Table) (s : State) → plain before calls ≡ Some (running t s) → Tells before s a
