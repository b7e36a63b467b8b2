-- The words of the ranking rules, and what the rules mean. Assumes nothing.
use Rattle.std.specs.Prelude.{ℕ, Bool, List, [], ◌∷◌, codes, Option, find}
use Rattle.std.specs.Str.{bytes_eq}
use Rattle.model.specs.Ready.{Ready}
use Rattle.bus.specs.Rules.{del, deh, dml, drel, el, ml}
use Rattle.bus.specs.declared.ranking.Ranking.{Ranking}
use Rattle.bus.specs.declared.ranking.Ranking.TheVariants.{Del, Deh, Dml, Drel, El, Ml}

-- the word of a ranking rule
abbrev pub word : Ranking → List ℕ
word Del = codes "DEL"
word Deh = codes "DEH"
word Dml = codes "DML"
word Drel = codes "DREL"
word El = codes "EL"
word Ml = codes "ML"

-- the ranking rules, in the order in which they are tried
abbrev pub all : List Ranking
all = Del ∷ Deh ∷ Dml ∷ Drel ∷ El ∷ Ml ∷ []

-- the first of them that has these bytes for its word, if any
abbrev pub named : List ℕ → Option Ranking
named w = find (λ r. bytes_eq w (word r)) all

-- what a ranking rule means
abbrev pub meaning : Ranking → Ready → Ready → Bool
meaning Del = del
meaning Deh = deh
meaning Dml = dml
meaning Drel = drel
meaning El = el
meaning Ml = ml
