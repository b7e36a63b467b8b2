use Rattle.std.proofs.Common.{arith, ap, ◌∙◌}
use Rattle.bus.specs.Endings.{told_of}
use Rattle.bus.specs.Machines.{tally_of}
use Rattle.bus.specs.States.{standing}
use Rattle.bus.specs.Tallies.{together}
use Rattle.bus.proofs.Passing.{sendable, Passed, marked_now, passed_unit, passed_tally}
use Rattle.bus.proofs.Telling.{nothing_and, none_few, one_few, capped_few}
use Rattle.bus.proofs.machine.state.State.unit.Goals as goal

pub start-requires : goal.start-requires
start-requires g c = sendable (standing c.args.self.now) c.requires.1 (standing c.release.new.self) c.release.ensures

pub tick-requires : goal.tick-requires
tick-requires g c =
    omega (arith, c.requires.0, marked_now _ c.args.noisy (standing c.args.self.now) _ _ _ c.release.ensures c.start.ensures c.mark.ensures)

pub add-requires : goal.add-requires
add-requires g c = none_few 9 (tally_of c.nothing-told.result) c.nothing-told.ensures

pub returns : goal.returns
returns g c =
    let one = one_few (tally_of c.add.new.self) _ _ c.nothing-told.ensures c.add.ensures in
    let eight = c.drop.ensures.few in
    let p : Passed (g.R.Rule.before c.args.rule.now) c.args.noisy (standing c.args.self.now) _ _ _ _ _ _ =
    record {
      released = c.release.ensures;
      started = c.start.ensures;
      marked = c.mark.ensures;
      ticked = c.tick.ensures;
      left = c.leave.ensures.state;
      dropped = c.drop.ensures.state;
    } in
    record {
      state = passed_unit _ _ _ _ _ _ _ _ _ p;
      told = passed_tally _ _ _ _ _ _ _ _ _ p _ _
          (c.add.ensures ∙ ap (λ n. together n (told_of c.leave.result)) c.nothing-told.ensures ∙ nothing_and _ ∙ c.leave.ensures.told)
          (c.together.ensures ∙ capped_few _ _ (omega (arith, one, eight), omega (arith, one, eight), omega (arith, one, eight)) ∙ ap (together (tally_of c.add.new.self)) c.drop.ensures.told);
    }
