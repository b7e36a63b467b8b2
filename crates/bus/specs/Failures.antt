-- The order of failures by their slots. Assumes nothing.
use Rattle.std.specs.Prelude.{ℕ, Bool, nat_lt}
use Rattle.bus.specs.declared.failure.Failure.{Failure}

abbrev pub failure_slot : Failure → ℕ
failure_slot f = f.slot

-- the lower slot first
abbrev pub lower_failure : Failure → Failure → Bool
lower_failure a b = nat_lt (failure_slot a) (failure_slot b)
