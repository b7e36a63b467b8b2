-- The margin of a stream under the longest other frame. Assumes nothing.
use Rattle.std.specs.Prelude.{Bool, ℕ, ◌-◌, ◌/◌, nat_lt}
use Rattle.bus.specs.Rules.{layered}
use Rattle.firm.specs.Histories.{distance_of}
use Rattle.model.specs.Ready.{Ready}

-- the distance of the stream's history less the number of its whole periods that pass while the longest other frame is sent; 0 if none is left
abbrev pub margin : ℕ → Ready → ℕ
margin longest f = distance_of f.history - longest / f.period

-- the smaller margin goes first; equal margins are left to the rule below
abbrev pub by_margin : ℕ → (Ready → Ready → Bool) → Ready → Ready → Bool
by_margin longest below = layered (margin longest) below

-- the slots counted down from 7, the fewer first
abbrev pub from_last : Ready → Ready → Bool
from_last a b = nat_lt (7 - a.slot) (7 - b.slot)
