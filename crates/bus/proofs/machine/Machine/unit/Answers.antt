use Rattle.std.proofs.Common.{sym, subst}
use mathlib.Core.Logic.{∥∥₁_map}
use Rattle.laws.specs.Sound.{Sound}
use Rattle.laws.proofs.Keeping.{unit_sound}
use Rattle.bus.specs.Machines.{state_of}
use Rattle.bus.proofs.machine.Machine.unit.Goals as goal

-- a unit leads from a sound state to a sound one
pub invariant_of-self : goal.invariant_of-self
invariant_of-self g c =
    record { sound = ∥∥₁_map c.args.self.now.sound (λ h. subst Sound (sym c.unit.ensures.state) (unit_sound _ _ (state_of c.args.self.now) h)) }
