-- The walk over a list as a chain of iterators makes it, which carries each element with its place. Assumes nothing.
use Rattle.std.proofs.Common.{◌≡◌, ℕ, suc, ◌+◌, Bool, true, false, cond, List, [], ◌∷◌, map, Some, None, Option, sym, refl, ap, ◌∙◌, add-one}
use Rattle.std.proofs.lemmas.Fn.{fold_same}
use Rattle.std.proofs.lemmas.Iterator.{YieldsList, items_from_drains}
use Rattle.std.proofs.lemmas.List.{map-append}
use Rattle.std.proofs.lemmas.List.Sums.{fold-append}
use Rattle.std.specs.Fn.{Called}
use Rattle.std.specs.Iterator.{Drains, ReducesItems}
use Rattle.std.specs.List.{fold, reduce, enumerate_from}
use Rattle.std.specs.Option.{option_map}
use denote.Param.Members.{Mut}
use Rattle.bus.specs.First.{walk, first_place}

items :
    {S A B : Type 0} {steps : S → Option A → S → Type 0} {v : A → B} {all : List B} {s : S} (xs : List A)
    → Drains steps s xs → YieldsList steps v s all → map v xs ≡ all
items xs d yields = items_from_drains xs (d.1.0, d.1.1, λ _. (d.0, d.1.2)) yields

-- what `reduce` makes of the items of a chain, where v reads each item and the closure computes h of what v reads
pub reduced :
    {S A B F : Type 0} {steps : S → Option A → S → Type 0} {v : A → B} {all : List B} (g : Mut F (A × (A × Unit {0})) A)
    (h : B → B → B) {f : F} {s : S} (r : Option A) → ReducesItems steps g s f r → YieldsList steps v s all
    → ((a z b : A) (q : F) → Called g f (a, (z, tt)) b q → (q ≡ f) × (v b ≡ h (v a) (v z))) → option_map v r ≡ reduce h all
reduced g h None ran yields calls = ap (reduce h) (items [] ran yields)
reduced {v = v} g h {f = f} (Some y) ran yields calls =
    ap Some
    (fold_same g (λ zs c. v c ≡ fold h (v ran.0) (map v zs)) f
    (λ zs a z b q so k.
    let m = calls a z b q k in
    (m.1 ∙ ap (λ c. h c (v z)) so ∙ sym (ap (fold h (v ran.0)) (map-append v zs (z ∷ [])) ∙ fold-append h (v ran.0) (map v zs) (v z ∷ [])), m.0))
    ran.1 ran.0 y ran.2 refl ran.4)
    ∙ ap (reduce h) (items (ran.0 ∷ ran.1) ran.3 yields)

module _ {X : Type 0} (ahead : X → X → Bool) where
  -- of two elements with their places the one that the walk stands at next
  abbrev pub forward : (ℕ × X) → (ℕ × X) → ℕ × X
  forward at next = cond (ahead next.1 at.1) next at

  folds : (xs : List X) (b : X) (i n : ℕ) → (fold forward (i, b) (enumerate_from n xs)).0 ≡ walk ahead b i n xs
  unfolding walk
  folds [] b i n = refl
  folds (x ∷ xs) b i n =
      elim (ahead x b) as
      (λ t. (fold forward (cond t (n, x) (i, b)) (enumerate_from (n + 1) xs)).0 ≡ cond t (walk ahead x n (suc n) xs) (walk ahead b i (suc n) xs)) [
        | true ↦ rw add-one (folds xs x n (suc n))
        | false ↦ rw add-one (folds xs b i (suc n))
      ]

  reduces : (xs : List X) → option_map (λ p. p.0) (reduce forward (enumerate_from 0 xs)) ≡ first_place ahead xs
  reduces [] = refl
  reduces (x ∷ xs) = ap Some (folds xs x 0 1)

  -- the place of the item that is left, whose element v reads
  pub first_left :
      {Y : Type 0} (v : Y → X) (xs : List X) (o : Option (ℕ × Y)) (i : ℕ) (y : Y) → o ≡ Some (i, y)
      → option_map (λ p. (p.0, v p.1)) o ≡ reduce forward (enumerate_from 0 xs) → Some i ≡ first_place ahead xs
  first_left v xs o i y left is =
      ap (option_map (λ p. p.0)) (ap (option_map (λ p. (p.0, v p.1))) (sym left) ∙ is) ∙ reduces xs

-- a walk by what the elements stand for is a walk over what they stand for
pub walk_map :
    {X Y : Type 0} (f : X → Y) (ahead : Y → Y → Bool) (xs : List X) (b : X) (i n : ℕ)
    → walk (λ x y. ahead (f x) (f y)) b i n xs ≡ walk ahead (f b) i n (map f xs)
unfolding walk
walk_map f ahead [] b i n = refl
walk_map f ahead (x ∷ xs) b i n = rw (walk_map f ahead xs x n (suc n), walk_map f ahead xs b i (suc n))

pub first_place_map :
    {X Y : Type 0} (f : X → Y) (ahead : Y → Y → Bool) (xs : List X)
    → first_place (λ x y. ahead (f x) (f y)) xs ≡ first_place ahead (map f xs)
first_place_map f ahead [] = refl
first_place_map f ahead (x ∷ xs) = ap Some (walk_map f ahead xs x 0 1)
