-- What is known of a record that was cut out of a file. Assumes nothing.
use Rattle.std.proofs.Common.{◌≡◌, ℕ, ◌+◌, ◌<◌, ◌≤◌, Bool, true, false, true≢false, cond, not, ltb, leb, List, length, get_or, take, drop, Some, None, Ok, Err, Option, Result, sym, refl, ap, ◌∙◌, add-zero, arith, length-drop, length-take-le, get_or-drop, get_or-take, ltb-false, le-ltb, lt-ltb, leb-false}
use Rattle.std.specs.Option.{ok_or}
use Rattle.refusal.specs.Tests.{and_then}
use Rattle.refusal.specs.declared.Fault.{Fault}
use Rattle.refusal.specs.declared.Refusal.TheVariants.{FieldUnknown, PeriodMissing}
use Rattle.refusal.specs.declared.Layer.TheVariants.{File}
use Rattle.model.specs.Fields.{start, extent, stands}
use Rattle.model.specs.Layout.{field_map, cut, located, admitted, short}

-- an answer behind a test that refuses came where the test failed
pub passed : {A E : Type 0} (b : Bool) (e : E) (r : Result A E) (x : A) → cond b (Err e) r ≡ Ok x → (b ≡ false) × (r ≡ Ok x)
passed true e r x is = absurd (true≢false cc)
passed false e r x is = (refl, is)

-- an answer behind another answer came where that was an `Ok`
pub came : {A B E : Type 0} (r : Result A E) (f : A → Result B E) (y : B) → and_then r f ≡ Ok y → (x : A) × (r ≡ Ok x) × (f x ≡ Ok y)
came (Ok x) f y is = (x, refl, is)
came (Err e) f y is = absurd (true≢false cc)

-- what an answer made of an option tells of it
pub there : {A E : Type 0} (o : Option A) (e : E) (x : A) → ok_or o e ≡ Ok x → o ≡ Some x
there None e x is = absurd (true≢false cc)
there (Some y) e x is = cc

pub missing : {A E : Type 0} (o : Option A) (e f : E) → ok_or o e ≡ Err f → (o ≡ None) × (f ≡ e)
missing None e f is = (refl, cc)
missing (Some y) e f is = absurd (true≢false cc)

pub located_ok : {A : Type 0} (place : ℕ) (who : _) (r : Result A _) (x : A) → located place who r ≡ Ok x → r ≡ Ok x
located_ok place who (Ok y) x is = ap Ok (cc)
located_ok place who (Err e) x is = absurd (true≢false cc)

module _ (file : List ℕ) (place : ℕ) (first : Bool) where
  pub cut_unmapped : (e : Fault) → Err e ≡ field_map file place first → Err e ≡ cut file place first
  unfolding cut
  cut_unmapped e is = ap (λ r. and_then r (λ map. cond (ltb (length file) (place + extent map)) (Err (short file)) (Ok (take (extent map) (drop place file))))) is

  cut_mapped : (map : ℕ) → Ok map ≡ field_map file place first → cond (ltb (length file) (place + extent map)) (Err (short file)) (Ok (take (extent map) (drop place file))) ≡ cut file place first
  unfolding cut
  cut_mapped map is = ap (λ r. and_then r (λ m. cond (ltb (length file) (place + extent m)) (Err (short file)) (Ok (take (extent m) (drop place file))))) is

  pub cut_short : (map : ℕ) → Ok map ≡ field_map file place first → length file < place + extent map → Err (short file) ≡ cut file place first
  cut_short map is less = sym (ap (λ b. cond b (Err (short file)) (Ok (take (extent map) (drop place file)))) (lt-ltb (length file) (place + extent map) less)) ∙ cut_mapped map is

  pub cut_whole : (map : ℕ) → Ok map ≡ field_map file place first → place + extent map ≤ length file → Ok (take (extent map) (drop place file)) ≡ cut file place first
  cut_whole map is fits = sym (ap (λ b. cond b (Err (short file)) (Ok (take (extent map) (drop place file)))) (le-ltb (length file) (place + extent map) fits)) ∙ cut_mapped map is

  -- a record has as many bytes as its field map says, and lies in the file where it was cut
  pub record Whole (r : List ℕ) : Type 0 where
    pub sized : length r ≡ extent (get_or r 0 0)
    pub within : place + length r ≤ length file
    pub part : r ≡ take (length r) (drop place file)
    pub admits : admitted (get_or r 0 0) first ≡ Ok (get_or r 0 0)

  some : (map : ℕ) → 1 ≤ extent map
  unfolding start
  some map = omega arith

  mapped : (map : ℕ) → field_map file place first ≡ Ok map → (place < length file) × (admitted (get_or file place 0) first ≡ Ok map)
  unfolding field_map
  mapped map is =
      let p = passed (leb (length file) place) (short file) (located place File (admitted (get_or file place 0) first)) map is in
      (leb-false (length file) place p.0, located_ok place File (admitted (get_or file place 0) first) map p.1)

  same_map : (map n : ℕ) → admitted map first ≡ Ok n → map ≡ n
  same_map map n is =
      let p = passed (stands map 6) FieldUnknown (cond (stands map 7) (Err FieldUnknown) (cond (cond first (not (stands map 0)) false) (Err PeriodMissing) (Ok map))) n is in
      let q = passed (stands map 7) FieldUnknown (cond (cond first (not (stands map 0)) false) (Err PeriodMissing) (Ok map)) n p.1 in
      let t = (passed (cond first (not (stands map 0)) false) PeriodMissing (Ok map) n q.1).1 in
      cc

  pub cut_ok : (r : List ℕ) → cut file place first ≡ Ok r → Whole r
  unfolding cut
  cut_ok r is =
      let m = came (field_map file place first) _ r is in
      let p = passed (ltb (length file) (place + extent m.0)) (short file) (Ok (take (extent m.0) (drop place file))) r m.2 in
      let f = mapped m.0 m.1 in
      let e : get_or file place 0 ≡ m.0 = same_map (get_or file place 0) m.0 f.1 in
      let fits = ltb-false (length file) (place + extent m.0) p.0 in
      let cutting : take (extent m.0) (drop place file) ≡ r = cc in
      let long : extent m.0 ≡ length r =
      sym (length-take-le (extent m.0) (drop place file) (simp length-drop (omega arith))) ∙ ap length cutting in
      let head : get_or r 0 0 ≡ m.0 =
      ap (λ l. get_or l 0 0) (sym cutting) ∙ get_or-take (extent m.0) (drop place file) 0 0 (some m.0) ∙ get_or-drop place file 0 0 ∙ ap (λ i. get_or file i 0) (add-zero place) ∙ e in
      record {
        sized = sym long ∙ ap extent (sym head);
        within = omega arith;
        part = sym cutting ∙ ap (λ n. take n (drop place file)) long;
        admits = ap (λ n. admitted n first) (head ∙ sym e) ∙ f.1 ∙ ap Ok (sym head);
      }
