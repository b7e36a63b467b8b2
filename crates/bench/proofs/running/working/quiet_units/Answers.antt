use Rattle.std.proofs.Common.{◌≡◌, ◌+◌, length, ◌∙◌, sym, subst, arith}
use Rattle.std.proofs.lemmas.List.{length-map}
use Rattle.bus.specs.Machines.{state_of, tally_of}
use Rattle.bus.specs.Tallies.{together}
use Rattle.bus.proofs.Telling.{capped_few}
use Rattle.bench.proofs.Advancing.{Led, led_none, led_few, led_next, led_early}
use Rattle.bench.proofs.running.working.quiet_units.Given as given
use Rattle.bench.proofs.running.working.quiet_units.Goals as goal
use Rattle.bench.proofs.running.working.quiet_units.Goals.{After-quiet_unit}

pub loop-init : goal.loop-init
loop-init g c = subst (Led _ _ 0 _) (sym c.nothing-told.ensures) (led_none _ _)

pub quiet_unit-requires : goal.quiet_unit-requires
quiet_unit-requires g c = led_early _ _ c.loop.counter c.args.units _ _ _ c.loop.invariant c.loop-test.true (omega (arith, c.requires.early))

-- what the units up to this one tell
next :
    (g : given.Over) (c : After-quiet_unit g)
    → Led (g.R.Rule.before c.args.rule.now) (state_of c.args.bus.now) (c.loop.counter + 1)
    (state_of c.quiet_unit.new.bus) (together (tally_of c.loop.told) (tally_of c.quiet_unit.result))
next g c = led_next _ _ c.loop.counter _ _ _ _ c.loop.invariant c.quiet_unit.ensures.told c.quiet_unit.ensures.state

pub loop-preserved : goal.loop-preserved
loop-preserved g c =
    let m = c.args.bus.now in
    let eight : length (state_of m).rows ≡ 8 = length-map m.state.rows _ ∙ m.state.eight in
    let n = next g (goal.at.loop-preserved g c).After-quiet_unit in
    let few = led_few _ _ _ _ _ eight n in
    subst (Led _ _ _ _) (sym (c.together-told.ensures ∙ capped_few _ _ (omega (arith, few.0), omega (arith, few.1), omega (arith, few.2)))) n
