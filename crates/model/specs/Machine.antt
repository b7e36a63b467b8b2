-- The bus machine: its state, the six steps of a unit of time, and the outcomes of frames. Assumes nothing.
use Rattle.std.specs.Prelude.{ℕ, suc, ◌+◌, ◌-◌, ◌*◌, ◌/◌, ◌%◌, Bool, true, false, cond, not, List, [], ◌∷◌, ◌++◌, map, Some, None, Option, ◌==◌, nat_lt, slice_index_or, slice_set}
use Rattle.std.specs.Option.{option_map}
use Rattle.firm.specs.Histories.{Firm, entered, passes}
use Rattle.model.specs.Streams.{Stream}
use Rattle.model.specs.Ready.{Ready, waiting}

-- ---- the state

-- an occupied slot: its stream, its history as it stands, and the number of its waiting frame, if any
pub record Row : Type 0 where
  pub stream : Stream
  pub bits : ℕ
  pub waits : Option ℕ

-- eight slots, each empty or with a row; the slot is the position
abbrev pub Rows : Type 0
Rows = List (Option Row)

-- the frame in transit: slot and number, the instant at which it leaves, and whether noise has hit it
pub record Transit : Type 0 where
  pub slot : ℕ
  pub frame : ℕ
  pub end : ℕ
  pub marked : Bool

pub record State : Type 0 where
  pub now : ℕ
  pub rows : Rows
  pub transit : Option Transit

-- how a frame ended, at which instant, and whether that is a dynamic failure: an outcome after which the history does not pass
pub record Outcome : Type 0 where
  pub slot : ℕ
  pub frame : ℕ
  pub instant : ℕ
  pub met : Bool
  pub failure : Bool

-- ---- frames of a stream: frame j, counted from 1, is released at (j - 1) * T, and is due D later

unfoldable pub born : Stream → ℕ → ℕ
born s j = (j - 1) * s.period

abbrev pub due : Stream → ℕ → ℕ
due s j = born s j + s.deadline

-- ---- rows

-- the history of a row as it stands
abbrev pub history_of : Row → Firm
history_of r = record { m = r.stream.history.m; k = r.stream.history.k; bits = r.bits }

-- the row with another waiting frame, or none
abbrev pub with_waiting : Option ℕ → Row → Row
with_waiting w r = record { stream = r.stream; bits = r.bits; waits = w }

-- the row after an outcome, met or missed
abbrev pub with_outcome : Bool → Row → Row
with_outcome met r = record { stream = r.stream; bits = entered r.stream.history.k r.bits (cond met 1 0); waits = r.waits }

-- the history of the row does not pass
abbrev pub failing : Row → Bool
failing r = not (passes r.stream.history.m r.stream.history.k r.bits)

-- f of every row
abbrev pub each : (Row → Row) → Rows → Rows
each f rows = map (option_map f) rows

-- f of the row in slot i
abbrev pub in_slot : ℕ → (Row → Row) → Rows → Rows
in_slot i f rows = slice_set rows i (option_map f (slice_index_or rows i None))

-- ---- step 1: each occupied slot whose period divides the instant releases a frame, which waits

abbrev pub release_row : ℕ → Row → Row
release_row u r = cond (u % r.stream.period == 0) (with_waiting (Some (u / r.stream.period + 1)) r) r

unfoldable pub release : State → State
release s = record { now = s.now; rows = each (release_row s.now) s.rows; transit = s.transit }

-- ---- step 2: with nothing in transit and some frame waiting, the front starts

-- a waiting frame: its number and what a ranking rule is shown of it
pub record Candidate : Type 0 where
  pub frame : ℕ
  pub shown : Ready

abbrev pub candidate : ℕ → ℕ → Row → ℕ → Candidate
candidate u i r j = record { frame = j; shown = waiting i r.stream (history_of r) (due r.stream j - u) }

-- a waiting frame, if any, before others
abbrev pub joined : Option Candidate → List Candidate → List Candidate
joined None cs = cs
joined (Some c) cs = c ∷ cs

-- the waiting frames of the slots from i on, lowest slot first
unfoldable pub candidates : ℕ → ℕ → Rows → List Candidate
candidates u i [] = []
candidates u i (None ∷ rows) = candidates u (suc i) rows
candidates u i (Some r ∷ rows) = joined (option_map (candidate u i r) r.waits) (candidates u (suc i) rows)

-- the one of some waiting frames that goes before the others
unfoldable pub best : (Ready → Ready → Bool) → Candidate → List Candidate → Candidate
best before c [] = c
best before c (d ∷ cs) = best before (cond (before d.shown c.shown) d c) cs

abbrev pub front : (Ready → Ready → Bool) → List Candidate → Option Candidate
front before [] = None
front before (c ∷ cs) = Some (best before c cs)

-- it no longer waits, and is in transit until its service time is over
abbrev pub starting : Option Transit → Option Candidate → State → State
starting (Some t) c s = s
starting None None s = s
starting None (Some c) s = record {
  now = s.now;
  rows = in_slot c.shown.slot (with_waiting None) s.rows;
  transit = Some (record { slot = c.shown.slot; frame = c.frame; end = s.now + c.shown.service; marked = false });
}

unfoldable pub start : (Ready → Ready → Bool) → State → State
start before s = starting s.transit (front before (candidates s.now 0 s.rows)) s

-- ---- step 3: in a noisy unit the frame in transit is marked

abbrev pub hit : Transit → Transit
hit t = record { slot = t.slot; frame = t.frame; end = t.end; marked = true }

unfoldable pub mark : Bool → State → State
mark noisy s = record { now = s.now; rows = s.rows; transit = cond noisy (option_map hit s.transit) s.transit }

-- ---- step 4: the instant becomes the next one

unfoldable pub tick : State → State
tick s = record { now = s.now + 1; rows = s.rows; transit = s.transit }

-- ---- step 5: the frame in transit leaves if its end is now; it has met, or has missed if marked

abbrev pub leaving : Option Transit → State → State
leaving None s = s
leaving (Some t) s =
    cond (t.end == s.now)
    (record { now = s.now; rows = in_slot t.slot (with_outcome (not t.marked)) s.rows; transit = None })
    s

unfoldable pub leave : State → State
leave s = leaving s.transit s

-- the outcome of a frame, from the row of its slot after it
abbrev pub outcome : ℕ → ℕ → ℕ → Bool → Row → Outcome
outcome u i j met r = record { slot = i; frame = j; instant = u; met = met; failure = failing (with_outcome met r) }

abbrev pub outcome_in : Option Row → (Row → Outcome) → List Outcome
outcome_in None o = []
outcome_in (Some r) o = o r ∷ []

abbrev pub arrival : Option Transit → State → List Outcome
arrival None s = []
arrival (Some t) s =
    cond (t.end == s.now) (outcome_in (slice_index_or s.rows t.slot None) (outcome s.now t.slot t.frame (not t.marked))) []

-- the outcome that step 5 gives, if any
unfoldable pub arrivals : State → List Outcome
arrivals s = arrival s.transit s

-- ---- step 6: each waiting frame that can no longer be sent in time is dropped and has missed

-- frame j of a stream cannot be sent by its deadline from instant u on
abbrev pub hopeless : ℕ → Stream → ℕ → Bool
hopeless u s j = nat_lt (due s j) (u + s.service)

abbrev pub dropping : ℕ → Option ℕ → Row → Row
dropping u None r = r
dropping u (Some j) r = cond (hopeless u r.stream j) (with_outcome false (with_waiting None r)) r

abbrev pub drop_row : ℕ → Row → Row
drop_row u r = dropping u r.waits r

unfoldable pub drop : State → State
drop s = record { now = s.now; rows = each (drop_row s.now) s.rows; transit = s.transit }

abbrev pub dropped : ℕ → ℕ → Option ℕ → Row → List Outcome
dropped u i None r = []
dropped u i (Some j) r = cond (hopeless u r.stream j) (outcome u i j false r ∷ []) []

-- the outcomes that step 6 gives in the slots from i on, lowest slot first
unfoldable pub drops : ℕ → ℕ → Rows → List Outcome
drops u i [] = []
drops u i (None ∷ rows) = drops u (suc i) rows
drops u i (Some r ∷ rows) = dropped u i r.waits r ++ drops u (suc i) rows

-- ---- one unit

-- steps 1 to 4
abbrev pub begun : (Ready → Ready → Bool) → Bool → State → State
begun before noisy s = tick (mark noisy (start before (release s)))

-- the state after a unit, and the outcomes that it gives
unfoldable pub unit : (Ready → Ready → Bool) → Bool → State → State
unit before noisy s = drop (leave (begun before noisy s))

unfoldable pub outcomes : (Ready → Ready → Bool) → Bool → State → List Outcome
outcomes before noisy s =
    arrivals (begun before noisy s) ++ drops (leave (begun before noisy s)).now 0 (leave (begun before noisy s)).rows
