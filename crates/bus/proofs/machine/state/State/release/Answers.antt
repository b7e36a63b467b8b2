use Rattle.std.proofs.Common.{◌+◌, Some, sym, ap, ◌∙◌, subst, arith}
use Rattle.std.specs.Option.{option_map}
use Rattle.model.specs.Machine as model
use Rattle.bus.specs.Rows.{row_of}
use Rattle.bus.specs.States.{standing}
use Rattle.bus.proofs.Writing.{Done, nothing_there, done_more, done_all}
use Rattle.bus.proofs.machine.state.State.release.Goals as goal
use Rattle.bus.proofs.machine.state.State.release.Goals.{in-Some, in_default}

pub loop-slot-preserved : goal.loop-slot-preserved
loop-slot-preserved c =
    let f = model.release_row c.args.self.now.now in
    let xs = c.args.self.now.rows in
    let i = c.loop-slot.slot-index in
    elim c.match-slot.branch [
      | in-Some w ↦
          subst (λ zs. Done f xs zs (i + 1)) (sym w.slot-items-is)
          (done_more f xs _ i _ _ (omega arith)
          (ap Some w.release.ensures ∙ ap (λ o. option_map f (option_map row_of o)) (sym w.in-Some.is))
          c.loop-slot.invariant)
      | in_default w ↦
          subst (λ zs. Done f xs zs (i + 1)) (sym w.slot-items-is)
          (done_more f xs _ i _ _ (omega arith) (nothing_there f _ w.in_default.is) c.loop-slot.invariant)
    ]

pub returns : goal.returns
unfolding model.release
returns c =
    ap (λ (rows : model.Rows). record { now = c.args.self.now.now; rows = rows; transit = (standing c.args.self.now).transit })
    (done_all _ _ _ _ (omega arith) c.loop-slot.invariant)
