-- What holds of every state that a table of lawful streams reaches. Assumes nothing.
use Rattle.std.specs.Prelude.{◌≡◌, ℕ, ◌+◌, ◌^◌, ◌<◌, ◌≤◌, length, Some, None, Option, slice_index_or}
use Rattle.std.specs.Option.{option_map}
use Rattle.model.specs.Streams.{Stream}
use Rattle.model.specs.Tables.{Table}
use Rattle.model.specs.Machine.{Row, Rows, Transit, State, born, due}

-- what the tests of a stream let through: 1 ≤ C ≤ D ≤ T ≤ 4,096, 1 ≤ m ≤ k ≤ 16, and a history of k bits
pub record LawfulStream (s : Stream) : Type 0 where
  pub service_some : 1 ≤ s.service
  pub service_fits : s.service ≤ s.deadline
  pub deadline_fits : s.deadline ≤ s.period
  pub period_short : s.period ≤ 4096
  pub required_some : 1 ≤ s.history.m
  pub required_most : s.history.m ≤ s.history.k
  pub window_short : s.history.k ≤ 16
  pub bits_fit : s.history.bits < 2 ^ s.history.k

-- a table of eight slots, each empty or with a lawful stream
pub record LawfulTable (t : Table) : Type 0 where
  pub eight : length t ≡ 8
  pub streams : (i : ℕ) (s : Stream) → slice_index_or t i None ≡ Some s → LawfulStream s

-- the row in a slot, if any
abbrev pub row_at : Rows → ℕ → Option Row
row_at rows i = slice_index_or rows i None

-- frame j waits in slot i, whose row is r
abbrev pub Waits : State → ℕ → Row → ℕ → Type 0
Waits s i r j = (row_at s.rows i ≡ Some r) × (r.waits ≡ Some j)

-- the stream of a slot, if any
abbrev pub stream_at : State → ℕ → Option Stream
stream_at s i = option_map (λ (r : Row). r.stream) (row_at s.rows i)

-- frame j of a stream, counted from 1, was released before an instant
pub record Released (until : ℕ) (s : Stream) (j : ℕ) : Type 0 where
  pub numbered : 1 ≤ j
  pub born_before : born s j < until

-- a row: its stream is lawful, its history has k bits, and its waiting frame, if any, was released and, sent from an instant on, is in time
pub record SoundRow (until from : ℕ) (r : Row) : Type 0 where
  pub lawful : LawfulStream r.stream
  pub bits : r.bits < 2 ^ r.stream.history.k
  pub released : (j : ℕ) → r.waits ≡ Some j → Released until r.stream j
  pub in_time : (j : ℕ) → r.waits ≡ Some j → from + r.stream.service ≤ due r.stream j

-- the frame in transit and the row of its slot: it was released, leaves after an instant and by its deadline, and in its slot none waits
pub record SoundTransit (until after : ℕ) (t : Transit) (r : Row) : Type 0 where
  pub released : Released until r.stream t.frame
  pub leaves_after : after < t.end
  pub leaves_by : t.end ≤ due r.stream t.frame
  pub alone : r.waits ≡ None

-- a state of eight slots, with three instants: its frames were released before the first, a waiting one sent from the second on is in time,
-- and the one in transit leaves after the third. The steps of a unit move the three on, one after the other
pub record SoundAt (until from after : ℕ) (s : State) : Type 0 where
  pub eight : length s.rows ≡ 8
  pub rows : (i : ℕ) (r : Row) → row_at s.rows i ≡ Some r → SoundRow until from r
  pub occupied : (t : Transit) → s.transit ≡ Some t → (r : Row) × (row_at s.rows t.slot ≡ Some r)
  pub transit : (t : Transit) (r : Row) → s.transit ≡ Some t → row_at s.rows t.slot ≡ Some r → SoundTransit until after t r

-- between two units all three are the instant of the state
abbrev pub Sound : State → Type 0
Sound s = SoundAt s.now s.now s.now s
