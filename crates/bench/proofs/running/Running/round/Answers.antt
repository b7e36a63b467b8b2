use Rattle.std.proofs.lemmas.Result.{err_from_is_err_and}
use Rattle.bench.proofs.Searching.{turn_first, turn_room, turn_fails, turn_found, turn_on, turn_anew}
use Rattle.bench.proofs.running.Running.round.Goals as goal
use Rattle.bench.proofs.running.Running.round.Goals.{then-to-from, else-to-from}

pub loop-to-init : goal.loop-to-init
loop-to-init g c = turn_first _ c.args.first _ c.requires

pub walk-requires : goal.walk-requires
walk-requires g c = turn_room _ c.args.first _ c.requires _ _ _ _ c.loop-to.invariant

pub returns-in_err-walk : goal.returns-in_err-walk
returns-in_err-walk g c =
    let p = err_from_is_err_and c.from_residual.result c.from_residual.ensures.1 in
    let there = turn_fails _ c.args.first _ c.requires _ _ _ _ c.loop-to.invariant _ c.in_err-walk.ensures in
    rw (p.1, p.2) there

pub returns-then-agree : goal.returns-then-agree
returns-then-agree g c = turn_found _ c.args.first _ c.requires _ _ _ _ c.loop-to.invariant _ c.in_ok-walk.ensures c.if-agree.ensures

pub loop-to-preserved : goal.loop-to-preserved
loop-to-preserved g c = elim c.if-to-from.branch [
  | then-to-from w ↦ rw (w.from-is, w.kept-is) (
      turn_anew _ c.args.first _ c.requires _ _ _ _ c.loop-to.invariant _ c.in_ok-walk.ensures c.if-agree.ensures w.if-to-from.true)
  | else-to-from w ↦ rw (w.from-is, w.kept-is) (
      turn_on _ c.args.first _ c.requires _ _ _ _ c.loop-to.invariant _ c.in_ok-walk.ensures c.if-agree.ensures w.if-to-from.false)
]
