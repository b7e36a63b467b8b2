use Rattle.std.proofs.Common.{ap, ◌∙◌}
use Rattle.std.specs.Bool.{then_some}
use Rattle.bus.proofs.Telling.{told_one}
use Rattle.bus.proofs.Writing.{failing_after}
use Rattle.bus.proofs.machine.row.Row.enter.Goals as goal

pub returns-clause-told : goal.returns-clause-told
returns-clause-told c =
    told_one c.args.outcome _ c.args.note _
    (c.then_some.ensures
    ∙ ap (λ b. then_some b c.args.note) (failing_after c.args.self.now c.args.outcome c.enter-self.result c.passes.result c.enter-self.ensures c.passes.ensures))
