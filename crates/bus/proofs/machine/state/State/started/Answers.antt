use Rattle.std.proofs.Common.{None, ap, rules}
use Rattle.model.specs.Machine as model
use Rattle.model.specs.Schedule.{started}
use Rattle.bus.proofs.Lawful.{started_rows}
use Rattle.bus.proofs.machine.state.State.started.Goals as goal

pub returns : goal.returns
unfolding started
returns c =
    ap (λ (rows : model.Rows). record { now = 0; rows = rows; transit = None })
    (started_rows _ _ c.args.table.now c.from_fn.result (λ k y q low called. search rules) c.from_fn.ensures.items)
