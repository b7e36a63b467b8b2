use Rattle.std.proofs.Common.{◌≡◌, ◌+◌, ◌-◌, subst, arith}
use Rattle.std.proofs.lemmas.Result.{err_from_is_err_and}
use Rattle.model.specs.Forecast.{Holds}
use Rattle.bench.proofs.Searching.{walk_room, walk_fails, pair_first, pair_found, pair_last, pair_on}
use Rattle.bench.proofs.running.Running.earliest_round.Goals as goal

pub loop-from-init : goal.loop-from-init
loop-from-init g c = pair_first _ c.args.first _ c.requires.state _ _ _ c.requires.returns c.in_ok-walk.ensures

pub returns-then-agree : goal.returns-then-agree
returns-then-agree g c = pair_found _ c.args.first _ c.requires.state _ _ _ _ _ c.loop-from.invariant c.if-agree.ensures

pub walk-requires-in-loop-from : goal.walk-requires-in-loop-from
walk-requires-in-loop-from g c = walk_room _ c.args.first _ c.requires.state _ _ c.loop-from.invariant.here (omega (arith, c.requires.soon, c.requires.returns.forward))

pub returns-in_err-walk-2 : goal.returns-in_err-walk-2
returns-in_err-walk-2 g c =
    let p = err_from_is_err_and c.from_residual-in_err-walk-2.result c.from_residual-in_err-walk-2.ensures.1 in
    let there = walk_fails _ c.args.first _ c.requires.state _ _ c.loop-from.invariant.here _ c.in_err-walk-2.ensures in
    rw (p.1, p.2) there

pub walk-requires-in-loop-from-2 : goal.walk-requires-in-loop-from-2
walk-requires-in-loop-from-2 g c = walk_room _ c.args.first _ c.requires.state _ _ c.loop-from.invariant.there (omega (arith, c.requires.soon, c.requires.returns.forward))

pub returns-in_err-walk-3 : goal.returns-in_err-walk-3
returns-in_err-walk-3 g c =
    let p = err_from_is_err_and c.from_residual-in_err-walk-3.result c.from_residual-in_err-walk-3.ensures.1 in
    let there = walk_fails _ c.args.first _ c.requires.state _ _ c.loop-from.invariant.there _ c.in_err-walk-3.ensures in
    rw (p.1, p.2) there

pub loop-from-preserved : goal.loop-from-preserved
loop-from-preserved g c = pair_on _ c.args.first _ c.requires.state _ _ _ _ _ c.loop-from.invariant c.if-agree.ensures _ _ c.in_ok-walk-2.ensures c.in_ok-walk-3.ensures

pub returns : goal.returns
returns g c =
    let whole : c.args.known.from + (c.args.known.to - c.args.known.from) ≡ c.args.known.to = omega (arith, c.requires.returns.forward) in
    subst (Holds _ _ c.args.known.from) whole (pair_last _ c.args.first _ c.requires.state _ _ _ _ _ c.loop-from.invariant (omega arith))
