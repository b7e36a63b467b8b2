use Rattle.std.proofs.Common.{◌≡◌, ◌<◌, true, replicate, ◌∙◌, arith}
use Rattle.model.specs.Bench.{last_instant}
use Rattle.model.specs.Schedule.{run}
use Rattle.bus.specs.Machines.{state_of}
use Rattle.bench.proofs.Advancing.{once_answered, once_led, once_run}
use Rattle.bench.proofs.Keeping.{kept_run, early_run}
use Rattle.bench.specs.Stands.{state_in}
use Rattle.bench.proofs.running.Running.disturb.Goals as goal

pub invariant_of-self : goal.invariant_of-self
invariant_of-self g c =
    let b = c.args.self.now in
    let before = g.R.Rule.before b.rule in
    let early : (state_in b).now < last_instant = omega arith in
    let e : state_of c.unit.new.self ≡ run before (state_in b) (replicate 1 true) = c.unit.ensures.state ∙ once_run before (state_in b) early in
    record {
      early = early_run before (state_in b) _ (replicate 1 true) (omega arith) e;
      same = kept_run before _ (state_in b) _ (replicate 1 true) b.machine.sound e b.same;
    }

pub returns-clause-answer : goal.returns-clause-answer
returns-clause-answer g c =
    let b = c.args.self.now in
    c.unit.ensures.answer ∙ once_answered (g.R.Rule.before b.rule) (state_in b) (omega arith)

pub returns-clause-state : goal.returns-clause-state
returns-clause-state g c =
    let b = c.args.self.now in
    c.unit.ensures.state ∙ once_led (g.R.Rule.before b.rule) (state_in b) (omega arith)
