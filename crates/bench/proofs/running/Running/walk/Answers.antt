use Rattle.std.proofs.Common.{sym, ap, ◌∙◌, subst, arith}
use Rattle.std.specs.Option.{option_map}
use Rattle.bus.specs.Machines.{failure_note, state_of}
use Rattle.promise.specs.Answers.{Walked}
use Rattle.promise.proofs.Walks.{walk_none, walk_now, walk_on, walk_fails}
use Rattle.bench.proofs.Walking.{told_first}
use Rattle.bench.proofs.running.Running.walk.Goals as goal

pub loop-init : goal.loop-init
loop-init g c = walk_none _ _

pub quiet_unit-requires : goal.quiet_unit-requires
quiet_unit-requires g c =
    omega (arith, walk_now _ _ c.loop.counter (state_of c.loop.bus) c.loop.invariant)

pub loop-preserved : goal.loop-preserved
loop-preserved g c =
    let unit = c.quiet_unit.ensures in
    subst (Walked _ _ _) (sym unit.state)
    (walk_on _ _ c.loop.counter (state_of c.loop.bus) c.loop.invariant (sym (told_first _ _ unit.told) ∙ ap (option_map failure_note) c.in_default.is))

pub returns-in-Some : goal.returns-in-Some
returns-in-Some g c =
    walk_fails _ _ c.loop.counter (state_of c.loop.bus) c.loop.invariant _
    (sym (told_first _ _ c.quiet_unit.ensures.told) ∙ ap (option_map failure_note) c.in-Some.is)
