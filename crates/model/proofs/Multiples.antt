-- The laws of the least common multiple: it is positive, both numbers divide it, and it divides every number that both divide.
-- Assumes nothing.
use Rattle.std.proofs.Common.{◌≡◌, ℕ, ◌*◌, ◌/◌, ◌%◌, ◌<◌, ◌≤◌, Bool, eqb, ap, ◌∙◌, inl, inr, mod-lt, mul-le-mul_left, arith}
use native.Mathlib.Nat.{mul-mod_left, mul-mod_right, dvd_antisymm, dvd_of_mod-eq-zero, mod-eq-zero_of_dvd, mul-div_cancel', mod-mod_of_dvd, mod-one, mod_self, le_of_dvd, dvd_trans}
use Rattle.std.proofs.lemmas.Bool.{eqb-true, eq-eqb, cases_lt}
use Rattle.std.proofs.lemmas.Nat.{le-div}
use Rattle.firm.proofs.Searching.{first_above, first_at_most, first_holds}
use Rattle.model.specs.Tables.{Divides, lcm}

module _ (a b : ℕ) (a-positive : 0 < a) (b-positive : 0 < b) where
  -- whether b divides the multiple j of a
  meets : ℕ → Bool
  meets j = eqb ((a * j) % b) 0

  pub lcm_positive : 0 < lcm a b
  unfolding lcm meets
  lcm_positive = omega (arith, mul-le-mul_left a (first_above meets b 1))

  pub divides_lcm_left : Divides a (lcm a b)
  unfolding lcm
  divides_lcm_left = mul-mod_right a _

  pub divides_lcm_right : Divides b (lcm a b)
  unfolding lcm meets
  divides_lcm_right = eqb-true _ _ (first_holds meets b 1 b b-positive (omega arith) (eq-eqb _ _ (mul-mod_left a b)))

  -- a positive number that both divide is no smaller
  pub lcm_least : (q : ℕ) → 0 < q → Divides a q → Divides b q → lcm a b ≤ q
  unfolding lcm meets
  lcm_least q q-positive ha hb =
      let e : a * (q / a) ≡ q = mul-div_cancel' a (dvd_of_mod-eq-zero a ha) in
      let some : 0 < q / a = le-div 1 q a a-positive (omega (arith, le_of_dvd q-positive (dvd_of_mod-eq-zero a ha))) in
      omega (arith, mul-le-mul_left a (first_at_most meets b 1 (q / a) some (eq-eqb _ _ (ap (λ n. n % b) e ∙ hb))))

  -- what both divide, their least common multiple divides
  pub lcm_divides : (n : ℕ) → Divides a n → Divides b n → Divides (lcm a b) n
  lcm_divides n ha hb =
      let left : Divides a (n % lcm a b) = mod-mod_of_dvd a n (dvd_of_mod-eq-zero a divides_lcm_left) ∙ ha in
      let right : Divides b (n % lcm a b) = mod-mod_of_dvd b n (dvd_of_mod-eq-zero b divides_lcm_right) ∙ hb in
      elim (cases_lt 0 (n % lcm a b)) [
        | inl k ↦ absurd (omega (arith, lcm_least (n % lcm a b) k left right, mod-lt n lcm_positive))
        | inr k ↦ omega arith
      ]

  pub le_lcm_left : a ≤ lcm a b
  le_lcm_left = le_of_dvd lcm_positive (dvd_of_mod-eq-zero a divides_lcm_left)

pub divides_trans : (a b c : ℕ) → Divides a b → Divides b c → Divides a c
divides_trans a b c h k = mod-eq-zero_of_dvd a (dvd_trans a (dvd_of_mod-eq-zero a h) (dvd_of_mod-eq-zero b k))

pub divides_antisym : (a b : ℕ) → Divides a b → Divides b a → a ≡ b
divides_antisym a b h k = dvd_antisymm (dvd_of_mod-eq-zero a h) (dvd_of_mod-eq-zero b k)

pub divides_le : (a b : ℕ) → 0 < b → Divides a b → a ≤ b
divides_le a b h k = le_of_dvd h (dvd_of_mod-eq-zero a k)

pub lcm_one_left : (a : ℕ) → 0 < a → lcm 1 a ≡ a
lcm_one_left a h =
    divides_antisym (lcm 1 a) a (lcm_divides 1 a (omega arith) h a (mod-one a) (mod_self a))
    (divides_lcm_right 1 a (omega arith) h)

pub lcm_one_right : (a : ℕ) → 0 < a → lcm a 1 ≡ a
lcm_one_right a h =
    divides_antisym (lcm a 1) a (lcm_divides a 1 h (omega arith) a (mod_self a) (mod-one a))
    (divides_lcm_left a 1 h (omega arith))

pub lcm_assoc : (a b c : ℕ) → 0 < a → 0 < b → 0 < c → lcm a (lcm b c) ≡ lcm (lcm a b) c
lcm_assoc a b c ha hb hc =
    let ab : ℕ = lcm a b in
    let bc : ℕ = lcm b c in
    let hab : 0 < ab = lcm_positive a b ha hb in
    let hbc : 0 < bc = lcm_positive b c hb hc in
    let ab-divides : Divides ab (lcm ab c) = divides_lcm_left ab c hab hc in
    let bc-divides : Divides bc (lcm a bc) = divides_lcm_right a bc ha hbc in
    divides_antisym (lcm a bc) (lcm ab c)
    (lcm_divides a bc ha hbc (lcm ab c) (divides_trans a ab (lcm ab c) (divides_lcm_left a b ha hb) ab-divides)
    (lcm_divides b c hb hc (lcm ab c) (divides_trans b ab (lcm ab c) (divides_lcm_right a b ha hb) ab-divides)
    (divides_lcm_right ab c hab hc)))
    (lcm_divides ab c hab hc (lcm a bc)
    (lcm_divides a b ha hb (lcm a bc) (divides_lcm_left a bc ha hbc)
    (divides_trans b bc (lcm a bc) (divides_lcm_left b c hb hc) bc-divides))
    (divides_trans c bc (lcm a bc) (divides_lcm_right b c hb hc) bc-divides))
