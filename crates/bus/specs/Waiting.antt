-- The frames that wait: what has to be known of them, what the code shows of them, and which of two goes ahead. Assumes nothing.
use Rattle.std.specs.Prelude.{◌≡◌, ℕ, ◌+◌, ◌≤◌, Bool, false, cond, is_some, Some, None, Option, slice_index_or}
use Rattle.model.specs.Machine as model
use Rattle.model.specs.Machine.{Row, Rows, born, due, release_row}
use Rattle.model.specs.Ready.{Ready}
use Rattle.bus.specs.Stands.{ready_of}
use Rattle.bus.specs.declared.machine.candidate.Candidate.{Candidate}

-- the waiting frame of a row, if any, was released by an instant, and is in time if it is sent from then on
abbrev pub Sendable : ℕ → Row → Type 0
Sendable u r = (j : ℕ) → r.waits ≡ Some j → (born r.stream j ≤ u) × (u + r.stream.service ≤ due r.stream j)

-- the same of the row of a slot, if any
abbrev pub SendableIn : ℕ → Option Row → Type 0
SendableIn u None = Unit {0}
SendableIn u (Some r) = Sendable u r

-- the same of every slot
abbrev pub AllSendable : ℕ → Rows → Type 0
AllSendable u rows = (i : ℕ) → SendableIn u (slice_index_or rows i None)

-- a waiting frame: its number and what is shown of it
abbrev pub candidate_of : Candidate → model.Candidate
candidate_of c = record { frame = c.frame; shown = ready_of c.shown }

-- a frame waits in a slot after the releases of an instant
abbrev pub waits_from : ℕ → Option Row → Bool
waits_from u None = false
waits_from u (Some r) = is_some (release_row u r).waits

-- the one of two waiting frames that goes before the other; either may be absent
abbrev pub ahead : (Ready → Ready → Bool) → Option model.Candidate → Option model.Candidate → Option model.Candidate
ahead before None c = c
ahead before (Some a) None = Some a
ahead before (Some a) (Some b) = Some (cond (before b.shown a.shown) b a)
