-- What the bus at an instant stands for. Assumes nothing.
use Rattle.std.specs.Option.{option_map}
use Rattle.model.specs.Machine as model
use Rattle.bus.specs.Rows.{rows_of, transit_of}
use Rattle.bus.specs.declared.machine.state.State.{State}

abbrev pub standing : State → model.State
standing s = record { now = s.now; rows = rows_of s.rows; transit = option_map transit_of s.transit }
