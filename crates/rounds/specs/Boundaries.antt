-- An idle bus with the histories it had: the schedule from there is the one it was. Assumes nothing.
use Rattle.std.specs.Prelude.{◌≡◌, ℕ, ◌+◌, ◌<◌, Bool, false, ◌||◌, List, [], ◌∷◌, map, Some, None, slice_index_or}
use Rattle.std.specs.Option.{option_map}
use Rattle.model.specs.Tables.{Table, Every, Common}
use Rattle.model.specs.Ready.{Ready}
use Rattle.model.specs.Machine.{Row, Rows, State, Outcome}
use Rattle.model.specs.Schedule.{after, given}
use Rattle.rounds.specs.Passing.{Bits}

-- the streams of the rows, and their histories as they stand
abbrev pub table_of : Rows → Table
table_of rows = map (option_map (λ r. r.stream)) rows

abbrev pub bits_of : Rows → Bits
bits_of rows = map (option_map (λ r. r.bits)) rows

-- the table stands with nothing waiting and nothing in transit
pub record Idle (t : Table) (s : State) : Type 0 where
  pub table : table_of s.rows ≡ t
  pub none_waits : (i : ℕ) (r : Row) → slice_index_or s.rows i None ≡ Some r → r.waits ≡ None
  pub bus_free : s.transit ≡ None

-- one of the outcomes is a dynamic failure
abbrev pub failed : List Outcome → Bool
failed [] = false
failed (o ∷ os) = o.failure || failed os

-- an outcome but for its instant and the number of its frame: the slot, whether it is met, whether it is a failure
abbrev pub kind : Outcome → ℕ × Bool × Bool
kind o = (o.slot, o.met, o.failure)

-- b stands d units after a, idle with the same table and histories, and every period divides d
pub record Alike (t : Table) (d : ℕ) (a b : State) : Type 0 where
  pub positive : Every (λ s. 0 < s.period) t
  pub common : Common t d
  pub first : Idle t a
  pub second : Idle t b
  pub apart : b.now ≡ a.now + d
  pub bits : bits_of b.rows ≡ bits_of a.rows

-- the schedules from a and from b agree in unit n, d units apart
pub record Agrees (before : Ready → Ready → Bool) (d : ℕ) (a b : State) (n : ℕ) : Type 0 where
  pub apart : (after before b n).now ≡ (after before a n).now + d
  pub table : table_of (after before b n).rows ≡ table_of (after before a n).rows
  pub bits : bits_of (after before b n).rows ≡ bits_of (after before a n).rows
  pub kinds : map kind (given before b n) ≡ map kind (given before a n)
  pub instants : map (λ o. o.instant) (given before b n) ≡ map (λ o. o.instant + d) (given before a n)
  pub failures : failed (given before b n) ≡ failed (given before a n)
