use Rattle.std.proofs.Common.{◌≡◌, ℕ, Bool, List, Decides, subst, ◌∙◌, rules}
use Rattle.std.specs.Str.{bytes_eq}
use Rattle.std.proofs.lemmas.Slice.Eq.{slice_eq-Decides, bytes_eq-Decides}
use Rattle.std.proofs.lemmas.Bool.Decides.{Decides-eqb}
use Rattle.bus.specs.Rankings.{word}
use Rattle.bus.proofs.ranking.Ranking.has_word.Goals as goal

tested : (xs ys : List ℕ) (r : Bool) → Decides r (xs ≡ ys) → r ≡ bytes_eq xs ys
tested xs ys r h = search (rules, bytes_eq-Decides)

pub returns : goal.returns
returns c =
    tested c.args.bytes.now (word c.args.self) c.eq.result
    (subst (λ l. Decides c.eq.result (c.args.bytes.now ≡ l)) (c.as_bytes.ensures.value ∙ c.word.ensures) (slice_eq-Decides Decides-eqb _ _ _ c.eq.ensures))
