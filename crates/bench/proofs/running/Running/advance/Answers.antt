use Rattle.std.proofs.Common.{◌+◌, ◌≤◌, false, length, replicate, arith}
use lib.ListN.{length-replicate}
use Rattle.model.specs.Bench.{last_instant}
use Rattle.bench.specs.Stands.{state_in}
use Rattle.bench.proofs.Keeping.{kept_run, early_run}
use Rattle.bench.proofs.running.Running.advance.Goals as goal

pub invariant_of-self : goal.invariant_of-self
invariant_of-self g c =
    let b = c.args.self.now in
    let before = g.R.Rule.before b.rule in
    let units = replicate c.args.units false in
    let room : (state_in b).now + length units ≤ last_instant = omega (arith, length-replicate c.args.units false) in
    let e = c.quiet_units.ensures.state in
    record { early = early_run before (state_in b) _ units room e; same = kept_run before _ (state_in b) _ units b.machine.sound e b.same }
