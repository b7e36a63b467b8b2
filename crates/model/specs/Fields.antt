-- A record of the table file: a field map of one byte, then the fields whose bit stands, lowest bit first. Assumes nothing.
use Rattle.std.specs.Prelude.{ℕ, zero, suc, ◌+◌, ◌-◌, ◌*◌, ◌/◌, ◌%◌, ◌^◌, Bool, cond, List, drop, ◌==◌, slice_index}

-- bit i of a map stands
abbrev pub stands : ℕ → ℕ → Bool
stands map i = map / 2 ^ i % 2 == 1

-- the bytes of field i: 0 is T, 1 is C, 2 is D, 3 is k, 4 is m, 5 is the history
abbrev pub size : ℕ → ℕ
size i = cond (i == 3) 1 (cond (i == 4) 1 2)

-- how many bytes of a record with this field map stand before field i: the map itself and the standing fields below
unfoldable pub start : ℕ → ℕ → ℕ
start map zero = 1
start map (suc i) = start map i + cond (stands map i) (size i) 0

-- the bytes of a record with this field map
abbrev pub extent : ℕ → ℕ
extent map = start map 6

-- the number in a field of one byte, or of two with the high byte first
abbrev pub number : ℕ → List ℕ → ℕ
number bytes bs = cond (bytes == 1) (slice_index bs 0) (256 * slice_index bs 0 + slice_index bs 1)

-- field i of a record, and what it is when missing
unfoldable pub value : List ℕ → ℕ → ℕ → ℕ
value r i missing = cond (stands (slice_index r 0) i) (number (size i) (drop (start (slice_index r 0) i) r)) missing

-- T is that of the record before when missing
abbrev pub period : ℕ → List ℕ → ℕ
period before r = value r 0 before

-- C is 1 when missing
abbrev pub service : List ℕ → ℕ
service r = value r 1 1

-- D is T when missing
abbrev pub deadline : ℕ → List ℕ → ℕ
deadline before r = value r 2 (period before r)

-- k is 1 when missing
abbrev pub window : List ℕ → ℕ
window r = value r 3 1

-- m is k when missing
abbrev pub required : List ℕ → ℕ
required r = value r 4 (window r)

-- the history is k ones when missing
abbrev pub history : List ℕ → ℕ
history r = value r 5 (2 ^ window r - 1)
