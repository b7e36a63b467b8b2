-- A table with one slot written: it keeps its invariants where what it then stands for is within the limits. Assumes nothing.
use Rattle.std.proofs.Common.{◌≡◌, ℕ, ◌≤◌, List, length, set, Option, ap, ◌∙◌, arith, length-set}
use Rattle.model.specs.Tables.{hyper_period, histories}
use Rattle.model.proofs.Limits.{Limits, Sound}
use Rattle.std.proofs.lemmas.List.{map-set}
use Rattle.streams.proofs.Slots.{slots_periodic, slots_passable}
use Rattle.streams.specs.Stands.{slot_of, slots_of}
use Rattle.streams.specs.Tables.{table_of}
use Rattle.streams.specs.declared.stream.Stream.{Stream}
use Rattle.streams.specs.declared.table.Table.{Table}

pub table_sound : (t : Table) → Sound (table_of t)
table_sound t = record { periodic = slots_periodic t.slots; passable = slots_passable t.slots }

pub table_limits : (t : Table) → Limits (table_of t)
table_limits t = record { period = t.short; few = t.few }

-- what a table asks of its slots
pub record Held (slots : List (Option Stream)) : Type 0 where
  pub eight : length slots ≡ 8
  pub short : hyper_period (slots_of slots) ≤ 36864
  pub few : histories (slots_of slots) ≤ 1048576

pub written : (t : Table) (i : ℕ) (o : Option Stream) → Limits (set (table_of t) i (slot_of o)) → Held (set t.slots i o)
written t i o h =
    let e = map-set slot_of t.slots i o in
    record { eight = length-set t.slots i o ∙ t.eight; short = omega (arith, ap hyper_period e); few = omega (arith, ap histories e) }
