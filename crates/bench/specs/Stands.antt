-- What a bench stands for, laid and running. Assumes nothing.
use Rattle.bench.specs.declared.laid.Laid.{Laid}
use Rattle.bench.specs.declared.running.Running.{Running}
use Rattle.bus.specs.declared.rule.Rule.{Ghosts}
use Rattle.bus.specs.Machines.{state_of}
use Rattle.model.specs.Machine.{State}
use Rattle.model.specs.Tables.{Table}
use Rattle.streams.specs.Tables.{table_of}

-- the table of a laid bench
abbrev pub table_in : {R : Type 0} → Laid R → Table
table_in b = table_of b.table

-- the bus of a running bench as it stands
abbrev pub state_in : {R : Type 0} {g : Ghosts R} → Running R g → State
state_in b = state_of b.machine

-- the table that a running bench was started with, and will be laid with again
abbrev pub table_under : {R : Type 0} {g : Ghosts R} → Running R g → Table
table_under b = table_of b.table
