-- The text of a failure as it is printed. Assumes nothing.
use Rattle.std.specs.Prelude.{ℕ, List, ◌++◌, codes, decimal}
use Rattle.model.specs.Tally.{Failure}

abbrev pub failure_text : Failure → List ℕ
failure_text f = codes "slot " ++ (decimal f.slot ++ (codes " frame " ++ (decimal f.frame ++ (codes " instant " ++ decimal f.instant))))
