-- What a slot of the code and its frame in transit stand for. Assumes nothing.
use Rattle.std.specs.Prelude.{List, map, Option}
use Rattle.std.specs.Option.{option_map}
use Rattle.streams.specs.Stands.{stream_of}
use Rattle.model.specs.Machine as model
use Rattle.bus.specs.declared.machine.row.Row.{Row}
use Rattle.bus.specs.declared.machine.transit.Transit.{Transit}

abbrev pub row_of : Row → model.Row
row_of r = record { stream = stream_of r.stream; bits = r.history.bits; waits = r.waits }

abbrev pub rows_of : List (Option Row) → model.Rows
rows_of rows = map (option_map row_of) rows

abbrev pub transit_of : Transit → model.Transit
transit_of t = record { slot = t.slot; frame = t.frame; end = t.end; marked = t.marked }
