-- What a `Table` stands for. Assumes nothing.
use Rattle.model.specs.Tables as model
use Rattle.streams.specs.Stands.{slots_of}
use Rattle.streams.specs.declared.table.Table.{Table}

abbrev pub table_of : Table → model.Table
table_of t = slots_of t.slots
