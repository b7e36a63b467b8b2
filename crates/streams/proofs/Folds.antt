-- What a fold asks of the function that it calls at each item. Assumes nothing.
use Rattle.std.proofs.Common.{◌≡◌, ℕ, ◌<◌, List, [], ◌∷◌, length, get_or, map, take, Some, Option, sym, ap, ap₂, ◌∙◌, refl, subst}
use Rattle.std.proofs.lemmas.Iterator.{YieldsList}
use Rattle.std.proofs.lemmas.Iterator.Consumers.{YieldsList-so_far, YieldsList-turn}
use Rattle.std.specs.Iterator.{CallableAtEachTurn}
use Rattle.std.specs.List.{fold, FoldsTo}

module _ {A B C F : Type 0} (v : A → B) (h : C → B → C) (f : F) (R : F × C → A → F × C → Type 0) (same : (n : C) (x : A) (q : F × C) → R (f, n) x q → (q.0 ≡ f) × (q.1 ≡ h n (v x))) where
  -- the calls at some items have made the fold of them, and left the function as it was
  folded : (xs : List A) (n : C) (q : F × C) → FoldsTo R (f, n) xs q → q ≡ (f, fold h n (map v xs))
  folded [] n q e = sym e
  folded (x ∷ xs) n q (j, r, rest) =
      let k = same n x j r in
      let e : j ≡ (f, h n (v x)) = ap₂ (λ (a : F) (b : C). (a, b)) k.0 k.1 in
      folded xs (h n (v x)) q (subst (λ (z : F × C). FoldsTo R z xs q) e rest)

  -- each call is allowed, where it is allowed at the fold of the items before it
  pub serves_fold : {S : Type 0} {steps : S → Option A → S → Type 0} {s : S} {all : List B} (Q : F × C → A → Type 0) (init : C) → YieldsList steps v s all → ((k : ℕ) (x : A) → k < length all → v x ≡ get_or all k (v x) → Q (f, fold h init (take k all)) x) → CallableAtEachTurn steps R Q s (f, init)
  serves_fold {all = all} Q init road allowed =
      record {
        at = λ xs t q x u y folds step.
            let turn = YieldsList-turn road xs t y (Some x) u x refl step in
            let front : map v xs ≡ take (length xs) all = YieldsList-so_far road xs t y in
            let is : q ≡ (f, fold h init (take (length xs) all)) = folded xs init q folds ∙ ap (λ (ys : List B). (f, fold h init ys)) front in
            subst (λ (z : F × C). Q z x) (sym is) (allowed (length xs) x turn.0 turn.1);
      }
