-- The histories of two states, compared slot by slot. Assumes nothing.
use Rattle.std.proofs.Common.{◌≡◌, ℕ, ◌<◌, ◌==◌, Bool, true, false, length, get_or, Some, None, Option, sym, refl, ap, ◌∙◌, subst, zero-add, arith}
use Rattle.std.proofs.lemmas.Bool.{both_ways}
use Rattle.std.proofs.lemmas.Bool.Decides.{Decides-eqb}
use Rattle.std.proofs.lemmas.List.{length-map, ext_get_or}
use Rattle.std.proofs.lemmas.List.FromFn.{get_or-range_with_len}
use Rattle.std.proofs.lemmas.List.Sums.{AllPass-from_list_all, list_all-from_AllPass}
use Rattle.std.specs.List.{list_all, range_with_len}
use Rattle.std.specs.Option.{option_eq, option_map}
use Rattle.model.specs.Machine.{Row, State}
use Rattle.model.specs.Forecast.{histories_of}
use Rattle.bench.specs.Searches.{Same}

-- a test of the eight slots, at each of them
at_each : (test : ℕ → Bool) → list_all test (range_with_len 0 8) ≡ true → (i : ℕ) → i < 8 → test i ≡ true
at_each test e i high =
    subst (λ j. test j ≡ true) (get_or-range_with_len 0 8 i 0 high ∙ zero-add i) (AllPass-from_list_all test (range_with_len 0 8) e i 0 high)

-- whether the outcomes of a slot are the same in two states
abbrev pub agrees : State → State → ℕ → Bool
agrees s t i = option_eq (λ m n. m == n) (get_or (histories_of s) i None) (get_or (histories_of t) i None)

alike : (x y : Option ℕ) → option_eq (λ m n. m == n) x y ≡ true → x ≡ y
alike None None e = refl
alike None (Some y) e = cc
alike (Some x) None e = cc
alike (Some x) (Some y) e = ap Some ((Decides-eqb x y).0 e)

itself : (x : Option ℕ) → option_eq (λ m n. m == n) x x ≡ true
itself None = refl
itself (Some x) = (Decides-eqb x x).1 refl

module _ (s t : State) (eight : length s.rows ≡ 8) (eight' : length t.rows ≡ 8) where
  agreed : list_all (agrees s t) (range_with_len 0 8) ≡ true → histories_of s ≡ histories_of t
  agreed e =
      ext_get_or None (histories_of s) (histories_of t) (length-map s.rows _ ∙ eight ∙ sym eight' ∙ sym (length-map t.rows _))
      (λ i l. alike _ _ (at_each (agrees s t) e i (omega (arith, l, length-map s.rows (option_map (λ (r : Row). r.bits)), eight))))

  -- the same histories agree in each slot
  alike_agree : histories_of s ≡ histories_of t → (i : ℕ) → agrees s t i ≡ true
  alike_agree same i =
      subst (λ h. option_eq (λ m n. m == n) (get_or (histories_of s) i None) (get_or h i None) ≡ true) same (itself (get_or (histories_of s) i None))

  differ : list_all (agrees s t) (range_with_len 0 8) ≡ false → histories_of s ≡ histories_of t → ⊥
  differ e same =
      both_ways _ e (list_all-from_AllPass (agrees s t) (range_with_len 0 8) (λ k d l. alike_agree same (get_or (range_with_len 0 8) k d)))

  -- the histories are the same exactly if all slots agree
  pub agree_if_all : (r : Bool) → r ≡ list_all (agrees s t) (range_with_len 0 8) → Same r (histories_of s) (histories_of t)
  agree_if_all true e = agreed (sym e)
  agree_if_all false e = differ (sym e)
