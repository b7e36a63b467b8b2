-- The line of an input that is refused. Assumes nothing.
use Rattle.std.specs.Prelude.{ℕ, List, [], ◌∷◌, ◌++◌}
use Rattle.refusal.specs.Texts.{fault_text}
use Rattle.refusal.specs.declared.Fault.{Fault}

-- the fault, ended by byte 10
abbrev pub refused : Fault → List ℕ
refused f = fault_text f ++ (10 ∷ [])
