-- The plain bench: a table of eight slots and, from start to stop, a machine state too; and what each call does to it.
-- It is fed the calls with their arguments and the meaning of the ranking rule, and nothing else. Assumes nothing.
use Rattle.std.specs.Prelude.{ℕ, ◌+◌, ◌^◌, Bool, true, false, cond, List, [], ◌∷◌, replicate, Some, None, Ok, Err, Option, Result, nat_le, nat_lt, slice_index_or, slice_set}
use Rattle.refusal.specs.Tests.{and_then, kept, on_ok}
use Rattle.refusal.specs.declared.Refusal.{Refusal}
use Rattle.refusal.specs.declared.Refusal.TheVariants.{SlotRange, SlotEmpty, HistoryWidth, UnitCount, InstantLimit}
use Rattle.model.specs.Streams.{Stream, stream}
use Rattle.model.specs.Tables.{Table, empty, placed}
use Rattle.model.specs.Layout.{judged}
use Rattle.model.specs.Ready.{Ready}
use Rattle.model.specs.Machine.{State}
use Rattle.model.specs.Schedule.{started, run, ran}
use Rattle.model.specs.Tally.{Tally, tally}

-- ---- calls of a laid bench, as what they make of the table

-- fit: a stream by its numbers T, D, C, m, k and history into a slot
abbrev pub fitted : Table → ℕ → ℕ → ℕ → ℕ → ℕ → ℕ → ℕ → Result Table Refusal
fitted t i period deadline service m k h =
    cond (nat_lt 7 i) (Err SlotRange) (and_then (stream period deadline service m k h) (λ s. placed t i s))

-- what is in a slot, or the refusal of a slot above 7 or an empty one
abbrev pub occupied : Option Stream → Result Stream Refusal
occupied None = Err SlotEmpty
occupied (Some s) = Ok s

abbrev pub taken : Table → ℕ → Result Stream Refusal
taken t i = cond (nat_lt 7 i) (Err SlotRange) (occupied (slice_index_or t i None))

-- pull: empties a slot
abbrev pub pulled : Table → ℕ → Result Table Refusal
pulled t i = and_then (taken t i) (λ s. Ok (slice_set t i None))

-- the stream with another history of its k bits
abbrev pub with_history : ℕ → Stream → Stream
with_history h s = record {
  period = s.period;
  deadline = s.deadline;
  service = s.service;
  history = record { m = s.history.m; k = s.history.k; bits = h };
}

-- prime: writes the history of one slot
abbrev pub primed : Table → ℕ → ℕ → Result Table Refusal
primed t i h =
    and_then (taken t i) (λ s. cond (nat_le (2 ^ s.history.k) h) (Err HistoryWidth) (Ok (slice_set t i (Some (with_history h s)))))

-- ---- calls of a running bench, as what they make of the machine state, and what they tell

-- the latest instant that a run may reach
abbrev pub last_instant : ℕ
last_instant = 1099511627776

-- what units do to a state, each noisy or quiet, and what they tell; refused where the instant would pass the latest one
pub record Worked : Type 0 where
  pub state : State
  pub told : Tally

module _ (before : Ready → Ready → Bool) where
  abbrev pub worked : State → List Bool → Worked
  worked s units = record { state = run before s units; told = tally (ran before s units) }

  -- advance: n quiet units, at most 65,535
  abbrev pub advanced : State → ℕ → Result Worked Refusal
  advanced s n =
      cond (nat_lt 65535 n) (Err UnitCount)
      (cond (nat_lt last_instant (s.now + n)) (Err InstantLimit) (Ok (worked s (replicate n false))))

  -- disturb: one noisy unit
  abbrev pub disturbed : State → Result Worked Refusal
  disturbed s = cond (nat_lt last_instant (s.now + 1)) (Err InstantLimit) (Ok (worked s (replicate 1 true)))

-- ---- any list of calls

-- a call with its arguments; those of fit are the slot, T, D, C, m, k and the history
pub data Call : Type 0 where
  fit : ℕ → ℕ → ℕ → ℕ → ℕ → ℕ → ℕ → Call
  pull : ℕ → Call
  prime : ℕ → ℕ → Call
  load : List ℕ → Call
  start : Call
  advance : ℕ → Call
  disturb : Call
  stop : Call

-- the plain bench: laid, with its table, or running, with the table it was started with and the machine's state
pub data Plain : Type 0 where
  laid : Table → Plain
  running : Table → State → Plain

-- where worked units lead, and what they tell
abbrev pub state_after : Worked → State
state_after w = w.state

abbrev pub tally_after : Worked → Tally
tally_after w = w.told

module _ (before : Ready → Ready → Bool) where
  -- what a call makes of the plain bench. A refused call changes nothing. A laid bench has no advance, disturb or stop, and a running one
  -- has no fit, pull, prime, load or start: there is no bench after such a call
  abbrev pub called : Plain → Call → Option Plain
  called (laid t) (fit i period deadline service m k h) = Some (laid (kept t (fitted t i period deadline service m k h)))
  called (laid t) (pull i) = Some (laid (kept t (pulled t i)))
  called (laid t) (prime i h) = Some (laid (kept t (primed t i h)))
  called (laid t) (load file) = Some (laid (kept t (judged file)))
  called (laid t) start = Some (running t (started t))
  called (laid t) (advance n) = None
  called (laid t) disturb = None
  called (laid t) stop = None
  called (running t s) (advance n) = Some (running t (kept s (on_ok state_after (advanced before s n))))
  called (running t s) disturb = Some (running t (kept s (on_ok state_after (disturbed before s))))
  called (running t s) stop = Some (laid t)
  called (running t s) (fit i period deadline service m k h) = None
  called (running t s) (pull i) = None
  called (running t s) (prime i h) = None
  called (running t s) (load file) = None
  called (running t s) start = None

  -- one call after the other
  unfoldable pub calls_from : Option Plain → List Call → Option Plain
  calls_from None calls = None
  calls_from (Some b) [] = Some b
  calls_from (Some b) (c ∷ calls) = calls_from (called b c) calls

  -- the plain bench after a list of calls: it begins laid and empty
  abbrev pub plain : List Call → Option Plain
  plain calls = calls_from (Some (laid empty)) calls
