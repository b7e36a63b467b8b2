-- The first of the multiples that is found is the least common one, and it lies within the limit where there is one.
use Rattle.std.proofs.Common.{◌≡◌, ◌+◌, ◌*◌, ◌/◌, ◌%◌, refl, arith, rules}
use borrow.Author.Tests.{tests}
use Rattle.std.proofs.lemmas.Iterator.{YieldsList-from_range, YieldsList-from_map, first_from_find}
use Rattle.std.proofs.lemmas.Iterator.Consumers.{YieldsList-at}
use Rattle.streams.proofs.Multiples.{first_multiple}
use Rattle.streams.proofs.table.repeating.common_multiple.Goals as goal

pub returns : goal.returns
returns c =
    let a = c.args.a in
    let b = c.args.b in
    let n = 36864 / a in
    first_multiple a b n c.requires.left c.requires.right 36864 refl c.find.result
    (first_from_find _ _ c.find.result (λ m. m % b ≡ 0) (λ m. m % b ≡ 0 → ⊥) c.find.ensures.ran
    (YieldsList-from_map _ (λ j. a * j) (YieldsList-at c.map.ensures.source (YieldsList-from_range 1 (n + 1) n refl (omega arith))) c.map.ensures.closure (λ x r q k. search rules))
    (λ x q k. search (rules, tests)) (λ x q k. search (rules, tests)))
