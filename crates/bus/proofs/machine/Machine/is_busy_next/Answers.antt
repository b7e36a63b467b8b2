use Rattle.std.proofs.Common.{Bool, ◌||◌, sym, ap, ◌∙◌}
use Rattle.std.specs.List.{list_any}
use Rattle.std.specs.Option.{option_map}
use Rattle.bus.specs.Rows.{row_of}
use Rattle.bus.specs.Waiting.{waits_from}
use Rattle.bus.specs.declared.machine.state.State.{State}
use Rattle.bus.proofs.Busy.{busy_standing}
use Rattle.bus.proofs.machine.Machine.is_busy_next.Goals as goal

-- a frame waits in some slot after the releases
abbrev waits : State → Bool
waits s = list_any (λ o. waits_from s.now (option_map row_of o)) s.rows

pub returns-then-is_some : goal.returns-then-is_some
returns-then-is_some c = λ before.
    c.if-is_some.true ∙ sym (busy_standing c.args.self.now.state before ∙ ap (λ b. b || waits c.args.self.now.state) (sym c.if-is_some.ensures))

pub returns-else-is_some : goal.returns-else-is_some
returns-else-is_some c = λ before.
    c.is_waiting.ensures ∙ sym (busy_standing c.args.self.now.state before ∙ ap (λ b. b || waits c.args.self.now.state) (sym c.if-is_some.ensures))
