-- The line of an admissible table, ended by byte 10. Assumes nothing.
use Rattle.std.specs.Prelude.{ℕ, List, [], ◌∷◌, ◌++◌, codes, decimal}

-- its hyper-period and its number of passing histories
abbrev pub admitted : ℕ → ℕ → List ℕ
admitted p n = codes "admitted P " ++ (decimal p ++ (codes " N " ++ (decimal n ++ (10 ∷ []))))
