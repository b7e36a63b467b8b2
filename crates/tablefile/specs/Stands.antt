-- What a reader stands for. Assumes nothing.
use Rattle.streams.specs.Tables.{table_of}
use Rattle.model.specs.Layout.{Progress}
use Rattle.tablefile.specs.declared.record.Reader.{Reader}

-- how far the file is read
abbrev pub progress_of : Reader → Progress
progress_of r = record { place = r.at; before = r.before; table = table_of r.table }
