-- When a file spells a table, said of the whole file and not of its reading: the slot map, then exactly one record for each
-- bit of it that stands, lowest slot first, and nothing else; and the table keeps its two limits. Assumes nothing.
use Rattle.std.specs.Prelude.{◌≡◌, ℕ, suc, ◌≤◌, true, false, List, [], ◌∷◌, ◌++◌, length, Some, None, Ok, Option, Result, slice_index}
use Rattle.std.specs.Option.{unwrap_or}
use Rattle.refusal.specs.declared.Fault.{Fault}
use Rattle.model.specs.Streams.{Stream}
use Rattle.model.specs.Tables.{Table, hyper_period, histories}
use Rattle.model.specs.Fields.{stands, extent}
use Rattle.model.specs.Layout.{spells}

-- r is a whole record for the stream s; `before` is the period of the record before it, if any
pub record Record (before : Option ℕ) (r : List ℕ) (s : Stream) : Type 0 where
  pub sixth : stands (slice_index r 0) 6 ≡ false
  pub seventh : stands (slice_index r 0) 7 ≡ false
  pub first : before ≡ None → stands (slice_index r 0) 0 ≡ true
  pub sized : length r ≡ extent (slice_index r 0)
  pub spelled : spells (unwrap_or before 0) r ≡ Ok s

-- bs holds the records of the slots from i on, and ts their streams
pub data Records (map : ℕ) : ℕ → Option ℕ → List ℕ → Table → Type 0 where
  end : {before : Option ℕ} → Records map 8 before [] []
  none : {i : ℕ} {before : Option ℕ} {bs : List ℕ} {ts : Table} → stands map i ≡ false → Records map (suc i) before bs ts → Records map i before bs (None ∷ ts)
  one : {i : ℕ} {before : Option ℕ} {r bs : List ℕ} {s : Stream} {ts : Table} → stands map i ≡ true → Record before r s → Records map (suc i) (Some s.period) bs ts → Records map i before (r ++ bs) (Some s ∷ ts)

-- the file spells the table, and the table is within its limits
pub record Spells (file : List ℕ) (t : Table) : Type 0 where
  pub map : ℕ
  pub rest : List ℕ
  pub begins : file ≡ map ∷ rest
  pub records : Records map 0 None rest t
  pub period : hyper_period t ≤ 36864
  pub few : histories t ≤ 1048576

-- an answer to a file is exact: it is the table that the file spells, and there is no table in it where the file spells none;
-- so a file spells at most one table
abbrev pub Exactly : List ℕ → Result Table Fault → Type 0
Exactly file answer = (t : Table) → (answer ≡ Ok t → Spells file t) × (Spells file t → answer ≡ Ok t)
