-- What is true of every unit from a sound state. Assumes nothing.
use Rattle.std.specs.Prelude.{◌≡◌, ℕ, ◌+◌, ◌-◌, ◌<◌, ◌≤◌, Bool, true, false, cond, not, List, [], ◌∷◌, Some, None, ◌≢◌}
use Rattle.model.specs.Streams.{Stream}
use Rattle.model.specs.Tables.{Divides}
use Rattle.model.specs.Ready.{Ready, waiting, Lawful}
use Rattle.model.specs.Machine.{Row, Transit, State, Outcome, due, history_of, in_slot, with_waiting, release, start, hit, begun, arrivals, leave, drops, unit}
use Rattle.laws.specs.Sound.{row_at, Waits, stream_at}

-- whether one waiting frame goes before another
abbrev pub Ranking : Type 0
Ranking = Ready → Ready → Bool

-- ---- releases

-- nothing waits and nothing is in transit
pub record Clear (s : State) : Type 0 where
  pub none_waits : (i : ℕ) (r : Row) → row_at s.rows i ≡ Some r → r.waits ≡ None
  pub none_sent : s.transit ≡ None

pub record ReleaseLaws (s : State) : Type 0 where
  -- a frame is released into a slot where nothing waits
  pub free : (i : ℕ) (r : Row) → row_at s.rows i ≡ Some r → Divides r.stream.period s.now → r.waits ≡ None
  -- at an instant that all periods divide every earlier frame is done
  pub clear : ((i : ℕ) (r : Row) → row_at s.rows i ≡ Some r → Divides r.stream.period s.now) → Clear s

-- ---- the frame that starts

-- what a ranking rule is shown of the waiting frame j of the row r in slot i
abbrev pub shown_of : State → ℕ → Row → ℕ → Ready
shown_of s i r j = waiting i r.stream (history_of r) (due r.stream j - s.now)

-- from a state with its releases made, frame j of the row r in slot i starts, and goes before every other that waits
pub record Starts (before : Ranking) (s : State) (i : ℕ) (r : Row) (j : ℕ) : Type 0 where
  pub waited : Waits s i r j
  pub sent : (start before s).transit ≡ Some (record { slot = i; frame = j; end = s.now + r.stream.service; marked = false })
  pub taken : (start before s).rows ≡ in_slot i (with_waiting None) s.rows
  pub first : (k : ℕ) (q : Row) (l : ℕ) → Waits s k q l → (i ≢ k) → before (shown_of s i r j) (shown_of s k q l) ≡ true

pub record StartLaws (before : Ranking) (s : State) : Type 0 where
  -- what a rule is shown of a waiting frame is lawful
  pub lawful : (i : ℕ) (r : Row) (j : ℕ) → Waits (release s) i r j → Lawful (shown_of (release s) i r j)
  -- an idle bus with a waiting frame starts one
  pub starts : s.transit ≡ None → (k : ℕ) (q : Row) (l : ℕ) → Waits (release s) k q l
      → (i : ℕ) × (r : Row) × (j : ℕ) × Starts before (release s) i r j
  -- with nothing waiting, and with a frame in transit, nothing starts
  pub waitless : ((k : ℕ) (q : Row) (l : ℕ) → Waits (release s) k q l → ⊥) → start before (release s) ≡ release s
  pub busy : (t : Transit) → s.transit ≡ Some t → start before (release s) ≡ release s

-- ---- the frame in transit

-- it, after a unit that is noisy or quiet
abbrev pub after_noise : Bool → Transit → Transit
after_noise noisy t = cond noisy (hit t) t

-- it gives one outcome, at an instant: met unless it is marked
pub record Arrives (t : Transit) (u : ℕ) (os : List Outcome) : Type 0 where
  pub result : Outcome
  pub alone : os ≡ result ∷ []
  pub slot : result.slot ≡ t.slot
  pub frame : result.frame ≡ t.frame
  pub instant : result.instant ≡ u
  pub met : result.met ≡ not t.marked

pub record TransitLaws (before : Ranking) (noisy : Bool) (s : State) : Type 0 where
  -- nothing takes its place, and what starts has waited and is sent for the service time of its stream
  pub kept : (t : Transit) → s.transit ≡ Some t → (start before (release s)).transit ≡ Some t
  pub sent : (t : Transit) → s.transit ≡ None → (start before (release s)).transit ≡ Some t
      → (r : Row) × Waits (release s) t.slot r t.frame × (t.end ≡ s.now + r.stream.service) × (t.marked ≡ false)
  -- it goes on if its end is not the next instant, and no frame arrives
  pub goes_on : (t : Transit) → (start before (release s)).transit ≡ Some t → (t.end ≢ s.now + 1)
      → ((unit before noisy s).transit ≡ Some (after_noise noisy t)) × (arrivals (begun before noisy s) ≡ [])
  -- it leaves if its end is the next instant, with one outcome
  pub leaves : (t : Transit) → (start before (release s)).transit ≡ Some t → t.end ≡ s.now + 1
      → ((unit before noisy s).transit ≡ None) × Arrives (after_noise noisy t) (s.now + 1) (arrivals (begun before noisy s))
  -- with none in transit after step 2, none arrives
  pub idle : (start before (release s)).transit ≡ None → ((unit before noisy s).transit ≡ None) × (arrivals (begun before noisy s) ≡ [])

-- ---- the frames that are dropped

-- the outcomes of step 6 of a unit
abbrev pub dropped_in : Ranking → Bool → State → List Outcome
dropped_in before noisy s = drops (leave (begun before noisy s)).now 0 (leave (begun before noisy s)).rows

-- a frame of a stream of the state is dropped and has missed at an instant from which it can no longer be sent by its deadline;
-- from an earlier instant it still could
pub record Dropped (s : State) (earlier then : ℕ) (o : Outcome) : Type 0 where
  pub stream : Stream
  pub of_slot : stream_at s o.slot ≡ Some stream
  pub instant : o.instant ≡ then
  pub missed : o.met ≡ false
  pub in_time : earlier + stream.service ≤ due stream o.frame
  pub too_late : due stream o.frame < then + stream.service
