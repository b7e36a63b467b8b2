-- What a `Stream` and the slots of a table stand for. Assumes nothing.
use Rattle.std.specs.Prelude.{List, map, Some, None, Option}
use Rattle.firm.specs.Stands.{firm_of}
use Rattle.model.specs.Streams as model
use Rattle.model.specs.Tables as model-tables
use Rattle.streams.specs.declared.stream.Stream.{Stream}

abbrev pub stream_of : Stream → model.Stream
stream_of s = record { period = s.period; deadline = s.deadline; service = s.service; history = firm_of s.history }

abbrev pub slot_of : Option Stream → Option model.Stream
slot_of None = None
slot_of (Some s) = Some (stream_of s)

abbrev pub slots_of : List (Option Stream) → model-tables.Table
slots_of slots = map slot_of slots
