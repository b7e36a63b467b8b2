-- The table file: a slot map of one byte, bit i for slot i, then one record for each bit that stands, lowest slot first.
-- `judged` is the table that a file spells, or its first fault in the order of the tests. Assumes nothing.
use Rattle.std.specs.Prelude.{ℕ, zero, suc, ◌+◌, Bool, false, cond, not, List, length, take, drop, is_some, Some, None, Ok, Err, Option, Result, ◌==◌, nat_le, nat_lt, slice_index}
use Rattle.std.specs.Option.{unwrap_or}
use Rattle.refusal.specs.Tests.{and_then}
use Rattle.refusal.specs.declared.Fault.{Fault}
use Rattle.refusal.specs.declared.Refusal.{Refusal}
use Rattle.refusal.specs.declared.Refusal.TheVariants.{FileShort, FieldUnknown, PeriodMissing, BytesFollow}
use Rattle.refusal.specs.declared.Layer as layer
use Rattle.refusal.specs.declared.Layer.TheVariants as layers
use Rattle.model.specs.Streams.{Stream, stream}
use Rattle.model.specs.Tables.{Table, empty, placed}
use Rattle.model.specs.Fields.{stands, extent, period, service, deadline, window, required, history}

abbrev pub fault : Refusal → ℕ → layer.Layer → Fault
fault why where-at who = record { refusal = why; place = where-at; layer = who }

-- a file that ends too soon has its fault at its length
abbrev pub short : List ℕ → Fault
short file = fault FileShort (length file) layers.File

-- a refusal by a layer, at a place
abbrev pub located : {A : Type 0} → ℕ → layer.Layer → Result A Refusal → Result A Fault
located place who (Ok x) = Ok x
located place who (Err why) = Err (fault why place who)

-- bits 6 and 7 of a field map name no field, and the first record of a file must have the period
abbrev pub admitted : ℕ → Bool → Result ℕ Refusal
admitted map first =
    cond (stands map 6) (Err FieldUnknown)
    (cond (stands map 7) (Err FieldUnknown)
    (cond (cond first (not (stands map 0)) false) (Err PeriodMissing) (Ok map)))

-- the field map at a place
unfoldable pub field_map : List ℕ → ℕ → Bool → Result ℕ Fault
field_map file place first =
    cond (nat_le (length file) place) (Err (short file)) (located place layers.File (admitted (slice_index file place) first))

-- the bytes of the record at a place, its field map first
unfoldable pub cut : List ℕ → ℕ → Bool → Result (List ℕ) Fault
cut file place first =
    and_then (field_map file place first) (λ map.
    cond (nat_lt (length file) (place + extent map)) (Err (short file)) (Ok (take (extent map) (drop place file))))

-- the stream that a record spells, where the record before it has the period given
unfoldable pub spells : ℕ → List ℕ → Result Stream Refusal
spells before r = stream (period before r) (deadline before r) (service r) (required r) (window r) (history r)

-- how far a file is read: the place of the next record, the period of the record before it, if any, and the table so far
pub record Progress : Type 0 where
  pub place : ℕ
  pub before : Option ℕ
  pub table : Table

-- the record for slot i
unfoldable pub next : List ℕ → ℕ → Progress → Result Progress Fault
next file i p =
    and_then (cut file p.place (not (is_some p.before))) (λ r.
    and_then (located p.place layers.Stream (spells (unwrap_or p.before 0) r)) (λ s.
    and_then (located p.place layers.Table (placed p.table i s)) (λ t.
    Ok (record { place = p.place + length r; before = Some s.period; table = t }))))

-- slots 0 to n - 1 of a file: a record for each whose bit stands in the slot map, none for the others
unfoldable pub slots : List ℕ → ℕ → Result Progress Fault
slots file zero = Ok (record { place = 1; before = None; table = empty })
slots file (suc n) = and_then (slots file n) (λ p. cond (stands (slice_index file 0) n) (next file n p) (Ok p))

-- the table that a file spells, or its first fault
unfoldable pub judged : List ℕ → Result Table Fault
judged file =
    cond (length file == 0) (Err (short file))
    (and_then (slots file 8) (λ p. cond (nat_lt p.place (length file)) (Err (fault BytesFollow p.place layers.File)) (Ok p.table)))
