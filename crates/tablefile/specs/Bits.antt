-- The bits of a field map. Assumes nothing.
use Rattle.std.specs.Prelude.{ℕ}
use Rattle.tablefile.specs.declared.fields.Field.{Field}
use Rattle.tablefile.specs.declared.fields.Field.TheVariants.{Period, Service, Deadline, Window, Required, History}

-- the bit of a field, lowest first
abbrev pub bit : Field → ℕ
bit Period = 0
bit Service = 1
bit Deadline = 2
bit Window = 3
bit Required = 4
bit History = 5
