use Rattle.std.proofs.Common.{refl}
use Rattle.bus.proofs.Starting.{start_busy, start_idle}
use Rattle.bus.proofs.machine.state.State.start.Goals as goal

pub returns-then-is_some : goal.returns-then-is_some
returns-then-is_some g c = start_busy _ c.args.self.now c.if-is_some.ensures

pub returns-in-Some : goal.returns-in-Some
returns-in-Some g c = start_idle _ c.args.self.now _ _ c.if-is_some.ensures c.in-Some.ensures c.send.ensures

pub returns-in_default : goal.returns-in_default
returns-in_default g c = start_idle _ c.args.self.now _ _ c.if-is_some.ensures c.in_default.ensures refl
