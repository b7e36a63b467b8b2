-- The least common multiple of a and b as the first of the multiples of a that b divides. Assumes nothing.
use Rattle.std.proofs.Common.{◌≡◌, ℕ, ◌+◌, ◌-◌, ◌*◌, ◌/◌, ◌%◌, ◌<◌, ◌≤◌, cond, ltb, List, length, map, Some, None, Option, MatchOption, sym, ap, ◌∙◌, subst, inl, inr, mul-le-mul_left, arith}
use native.Mathlib.Nat.{dvd_of_mod-eq-zero, mul-div_cancel', mul-mod_right}
use Rattle.std.proofs.Math.Nat.{mul-div-le}
use Rattle.std.proofs.lemmas.Bool.{cases_lt}
use Rattle.std.proofs.lemmas.Bool.Decides.{nat_tests}
use Rattle.std.proofs.lemmas.List.FromFn.{get_or-map-range_with_len, length-map-range_with_len}
use Rattle.std.proofs.lemmas.Nat.{le-div}
use Rattle.std.specs.List.{range_with_len, AllWithin, HoldsAt}
use Rattle.model.specs.Tables.{lcm}
use Rattle.model.proofs.Multiples.{lcm_positive, lcm_least, divides_lcm_left, divides_lcm_right}

module _ (a b n : ℕ) (a-positive : 0 < a) (b-positive : 0 < b) where
  -- the first n multiples of a
  abbrev pub multiples : List ℕ
  multiples = map (λ j. a * j) (range_with_len 1 n)

  -- how many times a goes into the least common multiple
  times : ℕ
  times = lcm a b / a

  whole : a * times ≡ lcm a b
  unfolding times
  whole = mul-div_cancel' a (dvd_of_mod-eq-zero a (divides_lcm_left a b a-positive b-positive))

  some : 1 ≤ times
  some = elim (cases_lt 0 times) [ inl h ↦ h | inr h ↦ absurd (omega (arith, whole, lcm_positive a b a-positive b-positive, mul-le-mul_left a h)) ]

  -- that many times a is not among the multiples that b does not divide
  untried : (i : ℕ) → i ≤ n → AllWithin (λ m. m % b ≡ 0 → ⊥) multiples 0 i → i < times
  untried i within none = elim (cases_lt i times) [
    | inl h ↦ h
    | inr h ↦
        let at = get_or-map-range_with_len (λ j. a * j) 1 n (times - 1) times 0 (omega (arith, some)) (omega (arith, some)) in
        absurd (none (times - 1) 0 (omega arith) (omega (arith, some)) (ap (λ m. m % b) (at ∙ whole) ∙ divides_lcm_right a b a-positive b-positive))
  ]

  pub first_multiple : (limit : ℕ) → n ≡ limit / a → (r : Option ℕ)
      → MatchOption r (AllWithin (λ m. m % b ≡ 0 → ⊥) multiples 0 (length multiples)) (λ x. (x % b ≡ 0) × (i : ℕ) × (i < length multiples) × HoldsAt (λ y. y ≡ x) multiples i × AllWithin (λ m. m % b ≡ 0 → ⊥) multiples 0 i)
      → r ≡ cond (ltb limit (lcm a b)) None (Some (lcm a b))
  first_multiple limit count None none =
      let long : length multiples ≡ n = length-map-range_with_len (λ j. a * j) 1 n in
      let past : n < times = untried n (omega arith) (subst (AllWithin (λ m. m % b ≡ 0 → ⊥) multiples 0) long none) in
      let above : limit < lcm a b = elim (cases_lt limit (lcm a b)) [ inl h ↦ h | inr h ↦ absurd (omega (arith, le-div times limit a a-positive (omega (arith, whole)))) ] in
      grind (arith, nat_tests)
  first_multiple limit count (Some x) (divided, i, within, is, before) =
      let long : length multiples ≡ n = length-map-range_with_len (λ j. a * j) 1 n in
      let past : i < times = untried i (omega arith) before in
      let value : x ≡ a * (i + 1) = sym (is 0) ∙ get_or-map-range_with_len (λ j. a * j) 1 n i (i + 1) 0 (omega arith) (omega arith) in
      let next : i + 1 ≤ times = omega arith in
      let last : i + 1 ≤ limit / a = omega arith in
      let first : 1 ≤ i + 1 = omega arith in
      let multiple : x % a ≡ 0 = ap (λ m. m % a) value ∙ mul-mod_right a (i + 1) in
      let positive : 0 < x = omega (arith, value, mul-le-mul_left a first) in
      let same : x ≡ lcm a b = omega (arith, value, whole, mul-le-mul_left a next, lcm_least a b a-positive b-positive x positive multiple divided) in
      let below : x ≤ limit = omega (arith, value, mul-le-mul_left a last, mul-div-le limit a) in
      grind (arith, nat_tests)
