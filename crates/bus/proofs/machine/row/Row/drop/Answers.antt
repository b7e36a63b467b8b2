use Rattle.std.proofs.Common.{sym, ap, ◌∙◌}
use Rattle.std.proofs.lemmas.Bool.{cond-false}
use Rattle.model.specs.Machine.{dropped}
use Rattle.model.specs.Tally.{tally}
use Rattle.bus.specs.Endings.{told_of}
use Rattle.bus.specs.Rows.{row_of}
use Rattle.bus.proofs.Telling.{told_none}
use Rattle.bus.proofs.machine.row.Row.drop.Goals as goal

pub returns-in_err-frame-clause-told : goal.returns-in_err-frame-clause-told
returns-in_err-frame-clause-told c =
    ap told_of c.from_residual.ensures ∙ told_none
    ∙ ap (λ w. tally (dropped c.args.instant c.args.slot w (row_of c.args.self.now))) (sym c.in_err-frame.was)

pub returns-then-not-is_hopeless-clause-told : goal.returns-then-not-is_hopeless-clause-told
returns-then-not-is_hopeless-clause-told c =
    told_none
    ∙ ap tally (sym (ap (λ w. dropped c.args.instant c.args.slot w (row_of c.args.self.now)) c.in_ok-frame.was ∙ cond-false _ _ _ (sym c.if-not-is_hopeless.ensures)))
