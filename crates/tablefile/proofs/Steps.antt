-- One record through the three layers, and slot after slot. Assumes nothing.
use Rattle.std.proofs.Common.{◌≡◌, ℕ, suc, ◌+◌, ◌<◌, ◌≤◌, true, false, cond, not, eqb, ltb, List, length, get_or, is_some, Some, None, Ok, Err, Result, unwrap_or, sym, refl, ap, ◌∙◌, add-one, arith, le-ltb, lt-ltb, eq-eqb, ne_eqb}
use native.Mathlib.Decide.{le_ind}
use Rattle.refusal.specs.Tests.{and_then, on_ok}
use Rattle.refusal.specs.declared.Fault.{Fault}
use Rattle.refusal.specs.declared.Refusal.{Refusal}
use Rattle.refusal.specs.declared.Refusal.TheVariants.{BytesFollow}
use Rattle.refusal.specs.declared.Layer.{Layer}
use Rattle.refusal.specs.declared.Layer.TheVariants as layers
use Rattle.model.specs.Streams as model
use Rattle.model.specs.Tables.{Table, empty, placed}
use Rattle.model.specs.Fields.{stands}
use Rattle.model.specs.Layout.{Progress, fault, short, located, cut, spells, next, slots, judged}

pub then_ok : {A B E : Type 0} {r : Result A E} {x : A} (f : A → Result B E) → r ≡ Ok x → and_then r f ≡ f x
then_ok f e = ap (λ r. and_then r f) e

pub then_err : {A B E : Type 0} {r : Result A E} {e : E} (f : A → Result B E) → r ≡ Err e → and_then r f ≡ Err e
then_err f e = ap (λ r. and_then r f) e

-- a layer's mark does not touch what an `Ok` holds
pub located_on : {A B : Type 0} (place : ℕ) (who : Layer) (f : A → B) (r : Result A Refusal) → on_ok f (located place who r) ≡ located place who (on_ok f r)
located_on place who f (Ok x) = refl
located_on place who f (Err e) = refl

module _ (file : List ℕ) (i : ℕ) (p : Progress) where
  abbrev pub the_cut : Result (List ℕ) Fault
  the_cut = cut file p.place (not (is_some p.before))

  abbrev pub the_stream : List ℕ → Result model.Stream Fault
  the_stream r = located p.place layers.Stream (spells (unwrap_or p.before 0) r)

  abbrev pub the_table : model.Stream → Result Table Fault
  the_table s = located p.place layers.Table (placed p.table i s)

  abbrev pub done : List ℕ → model.Stream → Table → Progress
  done r s t = record { place = p.place + length r; before = Some s.period; table = t }

  pub next_uncut : (f : Fault) → the_cut ≡ Err f → next file i p ≡ Err f
  unfolding next
  next_uncut f e = then_err _ e

  pub next_cut : (r : List ℕ) → the_cut ≡ Ok r → next file i p ≡ and_then (the_stream r) (λ s. and_then (the_table s) (λ t. Ok (done r s t)))
  unfolding next
  next_cut r e = then_ok _ e

  pub next_unspelled : (r : List ℕ) (f : Fault) → the_cut ≡ Ok r → the_stream r ≡ Err f → next file i p ≡ Err f
  next_unspelled r f c e = next_cut r c ∙ then_err _ e

  pub next_unplaced : (r : List ℕ) (s : model.Stream) (f : Fault) → the_cut ≡ Ok r → the_stream r ≡ Ok s → the_table s ≡ Err f → next file i p ≡ Err f
  next_unplaced r s f c e b = next_cut r c ∙ then_ok _ e ∙ then_err _ b

  pub next_laid : (r : List ℕ) (s : model.Stream) (t : Table) → the_cut ≡ Ok r → the_stream r ≡ Ok s → the_table s ≡ Ok t → next file i p ≡ Ok (done r s t)
  next_laid r s t c e b = next_cut r c ∙ then_ok _ e ∙ then_ok _ b

-- what a layer of the code answers, marked with its place, is what the layer of the layout answers
pub through : {A B : Type 0} {b : Result B Refusal} {e : Result A Fault} (place : ℕ) (who : Layer) (f : A → B) (r : Result A Refusal) → on_ok f r ≡ b → e ≡ located place who r → located place who b ≡ on_ok f e
through place who f r same is = ap (located place who) (sym same) ∙ sym (located_on place who f r) ∙ ap (on_ok f) (sym is)

module _ (file : List ℕ) where
  slots_more : (i : ℕ) (p : Progress) → slots file i ≡ Ok p → slots file (i + 1) ≡ cond (stands (get_or file 0 0) i) (next file i p) (Ok p)
  unfolding slots
  slots_more i p so = ap (slots file) (add-one i) ∙ then_ok _ so

  -- one more slot: no record for a bit that does not stand, and the next record for one that does
  pub slots_skip : (i : ℕ) (p : Progress) → slots file i ≡ Ok p → stands (get_or file 0 0) i ≡ false → slots file (i + 1) ≡ Ok p
  slots_skip i p so off = slots_more i p so ∙ ap (λ b. cond b (next file i p) (Ok p)) off

  pub slots_next : (i : ℕ) (p : Progress) {r : Result Progress Fault} → slots file i ≡ Ok p → stands (get_or file 0 0) i ≡ true → next file i p ≡ r → slots file (i + 1) ≡ r
  slots_next i p so on is = slots_more i p so ∙ ap (λ b. cond b (next file i p) (Ok p)) on ∙ is

  after_fault : (f : Fault) (i : ℕ) → slots file i ≡ Err f → slots file (suc i) ≡ Err f
  unfolding slots
  after_fault f i so = then_err _ so

  -- a fault of a slot is the fault of all later ones
  pub slots_stay : (f : Fault) (i j : ℕ) → i ≤ j → slots file i ≡ Err f → slots file j ≡ Err f
  slots_stay f i j h so = le_ind (λ n. slots file n ≡ Err f) so (λ n _ e. after_fault f n e) j h

  pub slots_none : slots file 0 ≡ Ok (record { place = 1; before = None; table = empty })
  unfolding slots
  slots_none = refl

  -- the whole file
  pub judged_none : length file ≡ 0 → judged file ≡ Err (short file)
  unfolding judged
  judged_none e = let t = eq-eqb (length file) 0 e in simp t

  judged_some : 0 < length file → judged file ≡ and_then (slots file 8) (λ p. cond (ltb p.place (length file)) (Err (fault BytesFollow p.place layers.File)) (Ok p.table))
  unfolding judged
  judged_some h = let t : eqb (length file) 0 ≡ false = ne_eqb (length file) 0 (λ e. omega arith) in simp t

  pub judged_fault : (f : Fault) → 0 < length file → slots file 8 ≡ Err f → judged file ≡ Err f
  judged_fault f h so = judged_some h ∙ then_err _ so

  pub judged_more : (p : Progress) → 0 < length file → slots file 8 ≡ Ok p → p.place < length file → judged file ≡ Err (fault BytesFollow p.place layers.File)
  judged_more p h so more = judged_some h ∙ then_ok _ so ∙ ap (λ b. cond b (Err (fault BytesFollow p.place layers.File)) (Ok p.table)) (lt-ltb p.place (length file) more)

  pub judged_whole : (p : Progress) → 0 < length file → slots file 8 ≡ Ok p → length file ≤ p.place → judged file ≡ Ok p.table
  judged_whole p h so all = judged_some h ∙ then_ok _ so ∙ ap (λ b. cond b (Err (fault BytesFollow p.place layers.File)) (Ok p.table)) (le-ltb p.place (length file) all)
