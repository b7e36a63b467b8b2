-- What holds of the outcomes of step 6 holds of each frame that is dropped. Assumes nothing.
use Rattle.std.proofs.Common.{◌≡◌, ℕ, zero, suc, ◌+◌, true, false, List, [], ◌∷◌, ◌++◌, Some, None, Option, ap, ◌∙◌, subst, arith}
use Rattle.std.specs.List.{AllByRecursion}
use Rattle.std.proofs.lemmas.Bool.{cond-true}
use Rattle.model.specs.Machine.{Row, Rows, Outcome, outcome, hopeless, dropped, drops}
use Rattle.laws.specs.Sound.{row_at}

pub all_parts : {X : Type 0} (P : X → Type 0) (xs ys : List X) → AllByRecursion P (xs ++ ys) → AllByRecursion P xs × AllByRecursion P ys
all_parts P [] ys h = (tt, h)
all_parts P (x ∷ xs) ys h = let k = all_parts P xs ys h.1 in ((h.0, k.0), k.1)

module _ (Q : Outcome → Type 0) (u : ℕ) where
  at_dropped : (i : ℕ) (r : Row) (w : Option ℕ) → AllByRecursion Q (dropped u i w r) → (j : ℕ) → w ≡ Some j → hopeless u r.stream j ≡ true
      → Q (outcome u i j false r)
  at_dropped i r None h j e l = absurd (let z : ◌≡◌ {A = ℕ} 0 1 = cc in omega arith)
  at_dropped i r (Some k) h j e l =
      let same : k ≡ j = cc in
      let late : hopeless u r.stream k ≡ true = ap (hopeless u r.stream) same ∙ l in
      subst (λ n. Q (outcome u i n false r)) same
      (subst (AllByRecursion Q) (cond-true (hopeless u r.stream k) (outcome u i k false r ∷ []) [] late) h).0

  -- Q at slot m, which is n
  moved : (m n j : ℕ) (r : Row) → m ≡ n → Q (outcome u m j false r) → Q (outcome u n j false r)
  moved m n j r e h = subst (λ k. Q (outcome u k j false r)) e h

  pub at_drops : (i : ℕ) (rows : Rows) → AllByRecursion Q (drops u i rows) → (k : ℕ) (r : Row) (j : ℕ) → row_at rows k ≡ Some r → r.waits ≡ Some j
      → hopeless u r.stream j ≡ true → Q (outcome u (i + k) j false r)
  unfolding drops
  at_drops i [] h k r j e w l = absurd (let z : ◌≡◌ {A = ℕ} 0 1 = cc in omega arith)
  at_drops i (None ∷ rows) h zero r j e w l = absurd (let z : ◌≡◌ {A = ℕ} 0 1 = cc in omega arith)
  at_drops i (None ∷ rows) h (suc k) r j e w l =
      moved (suc i + k) (i + suc k) j r (omega arith) (at_drops (suc i) rows h k r j e w l)
  at_drops i (Some q ∷ rows) h zero r j e w l =
      let same : q ≡ r = cc in
      let here : AllByRecursion Q (dropped u i q.waits q) = (all_parts Q (dropped u i q.waits q) (drops u (suc i) rows) h).0 in
      moved i (i + 0) j r (omega arith)
      (at_dropped i r r.waits (subst (λ (x : Row). AllByRecursion Q (dropped u i x.waits x)) same here) j w l)
  at_drops i (Some q ∷ rows) h (suc k) r j e w l =
      moved (suc i + k) (i + suc k) j r (omega arith)
      (at_drops (suc i) rows (all_parts Q (dropped u i q.waits q) (drops u (suc i) rows) h).1 k r j e w l)
