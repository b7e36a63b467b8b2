-- An input with a known word. Assumes nothing.
use Rattle.std.proofs.Common.{◌≡◌, ℕ, List, ◌∷◌, ◌++◌, Ok, refl, ap, ◌∙◌, ◌==◌}
use Rattle.std.proofs.lemmas.Iterator.Adapters.{position_from-zero}
use Rattle.std.specs.List.{position_from}
use Rattle.bus.specs.Rankings.{word}
use Rattle.bus.specs.declared.ranking.Ranking.{Ranking}
use Rattle.bus.specs.declared.ranking.Ranking.TheVariants.{Del, Deh, Dml, Drel, El, Ml}
use Rattle.question.specs.Questions.{asked, split}

-- the file stands behind the word
behind : (r : Ranking) (file : List ℕ) → split (position_from (λ b. b == 10) 0 (word r ++ (10 ∷ file))) (word r ++ (10 ∷ file)) ≡ Ok (r, file)
behind Del file = refl
behind Deh file = refl
behind Dml file = refl
behind Drel file = refl
behind El file = refl
behind Ml file = refl

-- an input that begins with a ranking rule's word and byte 10 asks about the file behind them
pub known : (r : Ranking) (file : List ℕ) → asked (word r ++ (10 ∷ file)) ≡ Ok (r, file)
known r file =
    let input : List ℕ = word r ++ (10 ∷ file) in
    ap (λ end. split end input) (position_from-zero (λ b. b == 10) input) ∙ behind r file
