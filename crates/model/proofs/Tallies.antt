-- What is told of some outcomes and then others. Assumes nothing.
use Rattle.std.proofs.Common.{◌≡◌, ◌+◌, Bool, true, false, cond, not, List, [], ◌∷◌, ◌++◌, length, Some, None, Option, sym, refl, ap, ◌∙◌, add_assoc, zero-add, arith}
use Rattle.std.proofs.lemmas.Bool.{cond-true, cond-false}
use Rattle.std.proofs.lemmas.Bool.Decides.{nat_tests}
use Rattle.model.specs.Machine.{Outcome}
use Rattle.model.specs.Tally.{Failure, how_many, sooner, soonest, failure_of, first_failure}

-- ---- counts

pub how_many_append : (test : Outcome → Bool) (xs ys : List Outcome) → how_many test (xs ++ ys) ≡ how_many test xs + how_many test ys
unfolding how_many
how_many_append test [] ys = sym (zero-add _)
how_many_append test (x ∷ xs) ys = ap (λ n. cond (test x) 1 0 + n) (how_many_append test xs ys) ∙ sym (add_assoc (cond (test x) 1 0) _ _)

-- what does not pass a test passes its opposite
pub how_many_not : (test : Outcome → Bool) (xs : List Outcome) → how_many test xs + how_many (λ o. not (test o)) xs ≡ length xs
unfolding how_many
how_many_not test [] = refl
how_many_not test (x ∷ xs) =
    elim (test x) as (λ t. (cond t 1 0 + how_many test xs) + (cond (not t) 1 0 + how_many (λ o. not (test o)) xs) ≡ length (x ∷ xs)) [
      | true ↦ omega (arith, how_many_not test xs)
      | false ↦ omega (arith, how_many_not test xs)
    ]

-- ---- the first failure

sooner_on : (a b c : Failure) → sooner a b ≡ true → sooner b c ≡ true → sooner a c ≡ true
sooner_on a b c p q = grind (arith, nat_tests)

later_on : (a b c : Failure) → sooner a b ≡ false → sooner b c ≡ false → sooner a c ≡ false
later_on a b c p q = grind (arith, nat_tests)

soonest_right : (x : Option Failure) → soonest x None ≡ x
soonest_right None = refl
soonest_right (Some a) = refl

soonest_three :
    (a b c : Failure) (s t : Bool) → sooner b a ≡ s → sooner c b ≡ t
    → soonest (cond s (Some b) (Some a)) (Some c) ≡ soonest (Some a) (cond t (Some c) (Some b))
soonest_three a b c true true p q = cond-true (sooner c b) _ _ q ∙ sym (cond-true (sooner c a) _ _ (sooner_on c b a q p))
soonest_three a b c true false p q = cond-false (sooner c b) _ _ q ∙ sym (cond-true (sooner b a) _ _ p)
soonest_three a b c false true p q = refl
soonest_three a b c false false p q = cond-false (sooner c a) _ _ (later_on c b a q p) ∙ sym (cond-false (sooner b a) _ _ p)

pub soonest_assoc : (x y z : Option Failure) → soonest (soonest x y) z ≡ soonest x (soonest y z)
soonest_assoc None y z = refl
soonest_assoc (Some a) None z = refl
soonest_assoc (Some a) (Some b) None = soonest_right (cond (sooner b a) (Some b) (Some a))
soonest_assoc (Some a) (Some b) (Some c) = soonest_three a b c (sooner b a) (sooner c b) refl refl

pub first_failure_append : (xs ys : List Outcome) → first_failure (xs ++ ys) ≡ soonest (first_failure xs) (first_failure ys)
unfolding first_failure
first_failure_append [] ys = refl
first_failure_append (x ∷ xs) ys = ap (soonest (failure_of x)) (first_failure_append xs ys) ∙ sym (soonest_assoc (failure_of x) (first_failure xs) (first_failure ys))
