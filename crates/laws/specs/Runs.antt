-- What is true of every run. Assumes nothing.
use Rattle.std.specs.Prelude.{◌≡◌, ℕ, ◌+◌, ◌<◌, ◌≤◌, Bool, cond, ◌&&◌, List, [], ◌∷◌, Some, None, Option, ◌==◌, nat_le, nat_lt}
use Rattle.model.specs.Streams.{Stream}
use Rattle.model.specs.Machine.{Row, Transit, State, Outcome, born, due}
use Rattle.laws.specs.Sound.{row_at}

-- ---- counts of frame j of slot i

-- 1 if a test holds, else 0
abbrev pub one_if : Bool → ℕ
one_if b = cond b 1 0

-- how many of some outcomes are of it
unfoldable pub told : ℕ → ℕ → List Outcome → ℕ
told i j [] = 0
told i j (o ∷ os) = one_if (o.slot == i && o.frame == j) + told i j os

-- 1 if the waiting frame, if any, is frame j
abbrev pub waits_here : Option ℕ → ℕ → ℕ
waits_here None j = 0
waits_here (Some w) j = one_if (w == j)

-- 1 if frame j waits in the row of a slot
abbrev pub waits_in : Option Row → ℕ → ℕ
waits_in None j = 0
waits_in (Some r) j = waits_here r.waits j

-- 1 if what is in transit is frame j of slot i
abbrev pub sent_in : Option Transit → ℕ → ℕ → ℕ
sent_in None i j = 0
sent_in (Some t) i j = one_if (t.slot == i && t.frame == j)

-- how often it waits or is in transit
unfoldable pub pending : State → ℕ → ℕ → ℕ
pending s i j = waits_in (row_at s.rows i) j + sent_in s.transit i j

-- 1 if the stream releases its frame j at some instant from lo on and before hi
abbrev pub released : ℕ → ℕ → Stream → ℕ → ℕ
released lo hi f j = one_if (nat_le lo (born f j) && nat_lt (born f j) hi)

-- at an instant, n outcomes of frame j of a stream have come: none up to its release, never more than one, and one from its deadline on
pub record Once (f : Stream) (j u n : ℕ) : Type 0 where
  pub early : u ≤ born f j → n ≡ 0
  pub most : n ≤ 1
  pub done : due f j ≤ u → n ≡ 1

-- an outcome of a frame of one of the streams comes after the frame's release and by its deadline
pub record Timely (streams : ℕ → Option Stream) (o : Outcome) : Type 0 where
  pub stream : Stream
  pub of_slot : streams o.slot ≡ Some stream
  pub numbered : 1 ≤ o.frame
  pub after_release : born stream o.frame < o.instant
  pub by_deadline : o.instant ≤ due stream o.frame
