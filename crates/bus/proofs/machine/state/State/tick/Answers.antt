use Rattle.std.proofs.Common.{refl}
use Rattle.model.specs.Machine.{tick}
use Rattle.bus.proofs.machine.state.State.tick.Goals as goal

pub returns : goal.returns
unfolding tick
returns c = refl
