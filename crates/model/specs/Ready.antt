-- What a ranking rule is shown of a frame that waits for the bus. Assumes nothing.
use Rattle.std.specs.Prelude.{◌≡◌, ℕ, ◌^◌, ◌<◌, ◌≤◌, Bool, true, not, ◌≢◌}
use Rattle.firm.specs.Histories.{Firm}
use Rattle.model.specs.Streams.{Stream}

-- the slot of its stream, the stream's period, relative deadline, service time and history, and the time left until the frame is due
pub record Ready : Type 0 where
  pub slot : ℕ
  pub period : ℕ
  pub deadline : ℕ
  pub service : ℕ
  pub history : Firm
  pub left : ℕ

-- the waiting frame of a stream, in its slot, with its history as it stands and so much time left
abbrev pub waiting : ℕ → Stream → Firm → ℕ → Ready
waiting slot s f left =
    record { slot = slot; period = s.period; deadline = s.deadline; service = s.service; history = f; left = left }

-- the numbers that a frame waiting in a table of eight slots has; it can still be sent in time
pub record Lawful (f : Ready) : Type 0 where
  pub slot_low : f.slot ≤ 7
  pub service_some : 1 ≤ f.service
  pub service_fits : f.service ≤ f.deadline
  pub deadline_fits : f.deadline ≤ f.period
  pub period_short : f.period ≤ 4096
  pub required_some : 1 ≤ f.history.m
  pub required_most : f.history.m ≤ f.history.k
  pub window_short : f.history.k ≤ 16
  pub bits_fit : f.history.bits < 2 ^ f.history.k
  pub left_enough : f.service ≤ f.left
  pub left_most : f.left ≤ f.deadline

-- ---- a ranking rule by its meaning: whether one waiting frame goes before another

-- of two frames in different slots exactly one goes before the other
abbrev pub Total : (Ready → Ready → Bool) → Type 0
Total before =
    (a b : Ready) → Lawful a → Lawful b → (a.slot ≢ b.slot) → before a b ≡ not (before b a)

-- over three different slots it is passed along: if a goes before b, and b before c, then a goes before c
abbrev pub Chain : (Ready → Ready → Bool) → Type 0
Chain before =
    (a b c : Ready) → Lawful a → Lawful b → Lawful c
    → (a.slot ≢ b.slot) → (b.slot ≢ c.slot) → (a.slot ≢ c.slot)
    → before a b ≡ true → before b c ≡ true → before a c ≡ true
