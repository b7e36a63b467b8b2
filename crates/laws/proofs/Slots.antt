-- What the two ways of changing rows, in every slot and in one slot, do to the row of a slot. Assumes nothing.
use Rattle.std.proofs.Common.{◌≡◌, ℕ, zero, suc, ◌<◌, Bool, true, false, cond, eqb, List, [], ◌∷◌, map, length, get_or, Some, None, Option, sym, refl, ap, ◌∙◌, inl, inr, arith}
use Rattle.std.proofs.lemmas.List.{length-map, length-set, get_or-set_other}
use Rattle.std.proofs.lemmas.Bool.{cases_eq, eq-eqb, ne_eqb, cond-true, cond-false}
use Rattle.std.specs.Option.{option_map}
use Rattle.model.specs.Machine.{Row, Rows, each, in_slot}
use Rattle.laws.specs.Sound.{row_at}

-- f where i is j, and no change elsewhere
abbrev pub only : {A : Type 0} → ℕ → ℕ → (A → A) → A → A
only i j f x = cond (eqb i j) (f x) x

pub get_or_mapped : {A B : Type 0} (f : A → B) (os : List (Option A)) (i : ℕ) → get_or (map (option_map f) os) i None ≡ option_map f (get_or os i None)
get_or_mapped f [] i = refl
get_or_mapped f (o ∷ os) zero = refl
get_or_mapped f (o ∷ os) (suc i) = get_or_mapped f os i

pub row_each : (f : Row → Row) (rows : Rows) (i : ℕ) → row_at (each f rows) i ≡ option_map f (row_at rows i)
row_each f rows i = get_or_mapped f rows i

pub row_here : (i : ℕ) (f : Row → Row) (rows : Rows) → row_at (in_slot i f rows) i ≡ option_map f (row_at rows i)
row_here i f [] = refl
row_here zero f (o ∷ rows) = refl
row_here (suc i) f (o ∷ rows) = row_here i f rows

pub row_else : (i : ℕ) (f : Row → Row) (rows : Rows) (j : ℕ) → (i ≡ j → ⊥) → row_at (in_slot i f rows) j ≡ row_at rows j
row_else i f rows j ne = get_or-set_other rows i j _ None (λ e. ne (sym e))

mapped_yes : (b : Bool) (f : Row → Row) (o : Option Row) → b ≡ true → option_map f o ≡ option_map (λ r. cond b (f r) r) o
mapped_yes b f None e = refl
mapped_yes b f (Some r) e = ap Some (sym (cond-true b (f r) r e))

mapped_no : (b : Bool) (f : Row → Row) (o : Option Row) → b ≡ false → o ≡ option_map (λ r. cond b (f r) r) o
mapped_no b f None e = refl
mapped_no b f (Some r) e = ap Some (sym (cond-false b (f r) r e))

pub row_in_slot : (i : ℕ) (f : Row → Row) (rows : Rows) (j : ℕ) → row_at (in_slot i f rows) j ≡ option_map (only i j f) (row_at rows j)
row_in_slot i f rows j =
    elim (cases_eq i j) [
      | inl e ↦ ap (λ n. row_at (in_slot i f rows) n) (sym e) ∙ row_here i f rows ∙ ap (λ n. option_map f (row_at rows n)) e
          ∙ mapped_yes (eqb i j) f (row_at rows j) (eq-eqb i j e)
      | inr ne ↦ row_else i f rows j ne ∙ mapped_no (eqb i j) f (row_at rows j) (ne_eqb i j ne)
    ]

pub length_each : (f : Row → Row) (rows : Rows) → length (each f rows) ≡ length rows
length_each f rows = length-map rows (option_map f)

pub length_in_slot : (i : ℕ) (f : Row → Row) (rows : Rows) → length (in_slot i f rows) ≡ length rows
length_in_slot i f rows = length-set rows i _

-- what a mapped option holds comes from what the option held
pub mapped_some : {A B : Type 0} (f : A → B) (o : Option A) (b : B) → option_map f o ≡ Some b → (a : A) × (o ≡ Some a) × (f a ≡ b)
mapped_some f None b e = absurd (let z : ◌≡◌ {A = ℕ} 0 1 = cc in omega arith)
mapped_some f (Some a) b e = (a, refl, cc)

-- a slot that holds something is below the length
pub below_from_some : {A : Type 0} (os : List (Option A)) (i : ℕ) (x : A) → get_or os i None ≡ Some x → i < length os
below_from_some [] i x e = absurd (let z : ◌≡◌ {A = ℕ} 0 1 = cc in omega arith)
below_from_some (o ∷ os) zero x e = omega arith
below_from_some (o ∷ os) (suc i) x e = omega (arith, below_from_some os i x e)

-- what a change of a row keeps, a change in all slots keeps
pub kept_mapped : {A B : Type 0} (f : A → B) (g : A → A) → ((x : A) → f (g x) ≡ f x) → (o : Option A) → option_map f (option_map g o) ≡ option_map f o
kept_mapped f g h None = refl
kept_mapped f g h (Some x) = ap Some (h x)
