use Rattle.std.proofs.Common.{◌+◌, ◌<◌, length, Some, sym, refl, ap, ◌∙◌, subst, arith}
use Rattle.std.proofs.lemmas.List.{length-map}
use Rattle.std.specs.Option.{option_map}
use Rattle.model.specs.Machine as model
use Rattle.bus.specs.Machines.{tally_of}
use Rattle.bus.specs.Rows.{row_of, rows_of}
use Rattle.bus.specs.States.{standing}
use Rattle.bus.proofs.Telling.{Told, told_start, told_more, told_empty, told_all}
use Rattle.bus.proofs.Writing.{Done, row_at, nothing_there, done_more, done_rest, done_all}
use Rattle.bus.proofs.machine.state.State.drop.Goals as goal
use Rattle.bus.proofs.machine.state.State.drop.Goals.{in-Some, in_default}

pub loop-i-init : goal.loop-i-init
loop-i-init c = (record { same = refl; done = refl }, told_start _ _ _ c.nothing-told.ensures)

pub loop-i-preserved : goal.loop-i-preserved
loop-i-preserved c =
    let f = model.drop_row c.args.self.now.now in
    let xs = c.args.self.now.rows in
    let i = c.loop-i.i in
    let within : i < length xs = omega arith in
    let rest = row_at c.loop-i.slot-items i c.slot-item.result (omega arith) ∙ done_rest f xs c.loop-i.slot-items i within c.loop-i.invariant.0 in
    elim c.match-slot.branch [
      | in-Some w ↦ (
        subst (λ zs. Done f xs zs (i + 1)) (sym w.slot-items-is)
            (done_more f xs _ i _ _ within
            (ap Some w.drop.ensures.row ∙ ap (λ o. option_map f (option_map row_of o)) (sym w.in-Some.is))
            c.loop-i.invariant.0),
        subst (λ t. Told c.args.self.now.now (rows_of xs) t (i + 1))
            (sym (ap tally_of w.told-is ∙ w.add.ensures))
            (told_more c.args.self.now.now (rows_of xs) _ i (Some (row_of w.in-Some.row)) w.drop.result (omega (arith, length-map xs (option_map row_of)))
            (sym (ap (option_map row_of) w.in-Some.is) ∙ rest) w.drop.ensures.told c.loop-i.invariant.1),
      )
      | in_default w ↦ (
        subst (λ zs. Done f xs zs (i + 1)) (sym w.slot-items-is)
            (done_more f xs _ i _ _ within (nothing_there f _ w.in_default.is) c.loop-i.invariant.0),
        subst (λ t. Told c.args.self.now.now (rows_of xs) t (i + 1))
            (sym (ap tally_of w.told-is))
            (told_empty c.args.self.now.now (rows_of xs) _ i (omega (arith, length-map xs (option_map row_of)))
            (sym (ap (option_map row_of) w.in_default.is) ∙ rest) c.loop-i.invariant.1),
      )
    ]

pub returns : goal.returns
unfolding model.drop
returns c =
    let s = c.args.self.now in
    let few = c.loop-i.invariant.1.few in
    record {
      state = ap (λ (rows : model.Rows). record { now = s.now; rows = rows; transit = (standing s).transit })
          (done_all _ _ _ _ (omega arith) c.loop-i.invariant.0);
      told = told_all _ _ _ _ (omega (arith, length-map s.rows (option_map row_of))) c.loop-i.invariant.1;
      few = (omega (arith, few), omega (arith, few), omega (arith, few));
    }
