-- How a refusal and a fault are printed, without the end of the line. Assumes nothing.
use Rattle.std.specs.Prelude.{ℕ, List, ◌++◌, codes, decimal}
use Rattle.refusal.specs.Numbers.{code, label}
use Rattle.refusal.specs.declared.Fault.{Fault}
use Rattle.refusal.specs.declared.Refusal.{Refusal}

-- a refusal: its number
abbrev pub refusal_text : Refusal → List ℕ
refusal_text r = codes "refused " ++ decimal (code r)

-- a fault: its refusal, its place and the layer that saw it
abbrev pub fault_text : Fault → List ℕ
fault_text f = refusal_text f.refusal ++ (codes " at " ++ (decimal f.place ++ (codes " " ++ label f.layer)))
