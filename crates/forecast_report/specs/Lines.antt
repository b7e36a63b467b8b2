-- The lines of a forecast, each ended by byte 10. Assumes nothing.
use Rattle.std.specs.Prelude.{ℕ, List, [], ◌∷◌, ◌++◌, codes, decimal}
use Rattle.model.specs.Figures.{Figures}
use Rattle.model.specs.Tally.{Failure}

-- a forecast that holds: its two boundaries
abbrev pub holding : ℕ → ℕ → List ℕ
holding i j = codes "holds " ++ (decimal i ++ (codes " " ++ (decimal j ++ (10 ∷ []))))

-- and its figures
abbrev pub figured : Figures → List ℕ
figured f =
    codes "length "
    ++ (decimal f.length ++ (codes " busy " ++ (decimal f.busy ++ (codes " met " ++ (decimal f.met ++ (codes " missed " ++ (decimal f.missed ++ (codes " load " ++ (decimal f.load ++ (10 ∷ []))))))))))

-- a forecast that fails: its first failure
abbrev pub failing : Failure → List ℕ
failing f = codes "fails slot " ++ (decimal f.slot ++ (codes " frame " ++ (decimal f.frame ++ (codes " instant " ++ (decimal f.instant ++ (10 ∷ []))))))
