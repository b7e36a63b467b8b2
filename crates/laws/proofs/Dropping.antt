-- The outcomes of step 6 are those of the waiting frames that can no longer be sent in time. Assumes nothing.
use Rattle.std.proofs.Common.{◌≡◌, ℕ, suc, ◌+◌, true, false, [], ◌∷◌, Some, None, Option, refl, subst, arith}
use Rattle.std.specs.List.{AllByRecursion}
use Rattle.std.proofs.ByRecursion.{All-append}
use Rattle.std.proofs.lemmas.Bool.{cond_both}
use Rattle.model.specs.Machine.{Row, Rows, Outcome, outcome, hopeless, dropped, drops}
use Rattle.laws.specs.Sound.{row_at}

module _ (Q : Outcome → Type 0) (u : ℕ) where
  all_dropped : (i : ℕ) (r : Row) (w : Option ℕ) → ((j : ℕ) → w ≡ Some j → hopeless u r.stream j ≡ true → Q (outcome u i j false r)) → AllByRecursion Q (dropped u i w r)
  all_dropped i r None h = tt
  all_dropped i r (Some j) h =
      cond_both (hopeless u r.stream j) (outcome u i j false r ∷ []) [] (AllByRecursion Q) (λ e. (h j refl e, tt)) (λ _. tt)

  pub all_drops : (i : ℕ) (rows : Rows)
      → ((k : ℕ) (r : Row) (j : ℕ) → row_at rows k ≡ Some r → r.waits ≡ Some j → hopeless u r.stream j ≡ true → Q (outcome u (i + k) j false r))
      → AllByRecursion Q (drops u i rows)
  unfolding drops
  all_drops i [] h = tt
  all_drops i (None ∷ rows) h =
      all_drops (suc i) rows (λ k r j e w l. let at : i + suc k ≡ suc i + k = omega arith in
      subst (λ n. Q (outcome u n j false r)) at (h (suc k) r j e w l))
  all_drops i (Some q ∷ rows) h =
      All-append Q (dropped u i q.waits q) (drops u (suc i) rows)
      (all_dropped i q q.waits (λ j w l. let at : i + 0 ≡ i = omega arith in
      subst (λ n. Q (outcome u n j false q)) at (h 0 q j refl w l)))
      (all_drops (suc i) rows (λ k r j e w l. let at : i + suc k ≡ suc i + k = omega arith in
      subst (λ n. Q (outcome u n j false r)) at (h (suc k) r j e w l)))
