use Rattle.std.proofs.lemmas.Result.{err_from_is_err_and}
use Rattle.laws.proofs.Held.{held_sound}
use Rattle.bus.specs.Machines.{failure_note, state_of}
use Rattle.bench.specs.Stands.{state_in}
use Rattle.bench.proofs.Foretelling.{fails_onward, earliest_onward}
use Rattle.bench.proofs.running.Running.search.Goals as goal

pub returns-in_err-round : goal.returns-in_err-round
returns-in_err-round g c =
    let b = c.args.self.now in
    let s = state_in b in
    let before = g.R.Rule.before b.rule in
    let p = err_from_is_err_and c.from_residual-in_err-round.result c.from_residual-in_err-round.ensures.1 in
    let there = fails_onward before s (held_sound s b.machine.sound) (state_of c.in_ok-first.first) c.in_ok-first.ensures.0
    (failure_note c.in_err-round.field-0.0) c.in_err-round.ensures in
    rw (p.1, p.2) there

pub returns : goal.returns
returns g c =
    let b = c.args.self.now in
    let s = state_in b in
    let before = g.R.Rule.before b.rule in
    earliest_onward before s (held_sound s b.machine.sound) (state_of c.in_ok-first.first) c.in_ok-first.ensures.0
    c.earliest_round.result c.earliest_round.ensures
