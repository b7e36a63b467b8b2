-- A state moved in time: each step of a unit of a moved state is the moved step. Assumes nothing.
use Rattle.std.proofs.Common.{◌≡◌, ℕ, zero, suc, ◌+◌, ◌-◌, ◌*◌, ◌/◌, ◌%◌, ◌<◌, ◌≤◌, Bool, true, false, cond, eqb, [], ◌∷◌, Some, None, Option, sym, refl, ap, ◌∙◌, ap₂, add-mul, arith}
use native.Mathlib.Nat.{add-mul-div_right, add-mul-mod_self_right}
use Rattle.std.specs.Option.{option_map}
use Rattle.std.proofs.lemmas.Bool.Decides.{nat_tests}
use Rattle.model.specs.Machine.{Row, Rows, Transit, State, Outcome, Candidate, born, due, with_waiting, with_outcome, each, in_slot, release_row, hopeless, dropping}

-- ---- what is moved: d units later a stream's frame has a number that is `by` higher

abbrev pub later_row : ℕ → Row → Row
later_row by r = with_waiting (option_map (λ j. j + by) r.waits) r

-- the rows of the slots from i on; `by` has a number for each slot
abbrev pub later_rows : (ℕ → ℕ) → ℕ → Rows → Rows
later_rows by i [] = []
later_rows by i (o ∷ rows) = option_map (later_row (by i)) o ∷ later_rows by (suc i) rows

abbrev pub later_transit : ℕ → (ℕ → ℕ) → Transit → Transit
later_transit d by t = record { slot = t.slot; frame = t.frame + by t.slot; end = t.end + d; marked = t.marked }

abbrev pub later : ℕ → (ℕ → ℕ) → State → State
later d by s = record {
  now = s.now + d;
  rows = later_rows by 0 s.rows;
  transit = option_map (later_transit d by) s.transit;
}

abbrev pub later_candidate : (ℕ → ℕ) → Candidate → Candidate
later_candidate by c = record { frame = c.frame + by c.shown.slot; shown = c.shown }

abbrev pub later_outcome : ℕ → (ℕ → ℕ) → Outcome → Outcome
later_outcome d by o = record {
  slot = o.slot;
  frame = o.frame + by o.slot;
  instant = o.instant + d;
  met = o.met;
  failure = o.failure;
}

-- ---- of which states

-- frames are counted from 1
abbrev pub Counted : Option ℕ → Type 0
Counted None = Unit {0}
Counted (Some j) = 1 ≤ j

-- d is `by` periods of the row
pub record Steady (d by : ℕ) (r : Row) : Type 0 where
  pub positive : 0 < r.stream.period
  pub whole : by * r.stream.period ≡ d
  pub counted : Counted r.waits

-- a property of each row of the slots from i on, with its slot
abbrev pub Slots : (ℕ → Row → Type 0) → ℕ → Rows → Type 0
Slots P i [] = Unit {0}
Slots P i (None ∷ rows) = Slots P (suc i) rows
Slots P i (Some r ∷ rows) = P i r × Slots P (suc i) rows

-- d is `by i` periods of the row in slot i
abbrev pub Moves : ℕ → (ℕ → ℕ) → ℕ → Row → Type 0
Moves d by i r = Steady d (by i) r

abbrev pub Regular : ℕ → (ℕ → ℕ) → State → Type 0
Regular d by s = Slots (Moves d by) 0 s.rows

-- ---- rows are changed each alike, or in one slot

pub cond_under : {A B : Type 0} (f : A → B) (t : Bool) (x y : A) → cond t (f x) (f y) ≡ f (cond t x y)
cond_under f true x y = refl
cond_under f false x y = refl

module _ (P : ℕ → Row → Type 0) where
  pub each_keeps : (f : Row → Row) → ((i : ℕ) (r : Row) → P i r → P i (f r)) → (i : ℕ) (rows : Rows) → Slots P i rows → Slots P i (each f rows)
  each_keeps f keeps i [] h = tt
  each_keeps f keeps i (None ∷ rows) h = each_keeps f keeps (suc i) rows h
  each_keeps f keeps i (Some r ∷ rows) h = (keeps i r h.0, each_keeps f keeps (suc i) rows h.1)

  pub in_slot_keeps : (f : Row → Row) → ((i : ℕ) (r : Row) → P i r → P i (f r)) → (i n : ℕ) (rows : Rows) → Slots P i rows → Slots P i (in_slot n f rows)
  in_slot_keeps f keeps i n [] h = tt
  in_slot_keeps f keeps i zero (None ∷ rows) h = h
  in_slot_keeps f keeps i zero (Some r ∷ rows) h = (keeps i r h.0, h.1)
  in_slot_keeps f keeps i (suc n) (None ∷ rows) h = in_slot_keeps f keeps (suc i) n rows h
  in_slot_keeps f keeps i (suc n) (Some r ∷ rows) h = (h.0, in_slot_keeps f keeps (suc i) n rows h.1)

  pub each_later : (by : ℕ → ℕ) (f g : Row → Row) → ((i : ℕ) (r : Row) → P i r → g (later_row (by i) r) ≡ later_row (by i) (f r))
      → (i : ℕ) (rows : Rows) → Slots P i rows → each g (later_rows by i rows) ≡ later_rows by i (each f rows)
  each_later by f g moves i [] h = refl
  each_later by f g moves i (None ∷ rows) h = ap (λ rs. None ∷ rs) (each_later by f g moves (suc i) rows h)
  each_later by f g moves i (Some r ∷ rows) h =
      ap₂ (λ x rs. Some x ∷ rs) (moves i r h.0) (each_later by f g moves (suc i) rows h.1)

pub in_slot_later : (by : ℕ → ℕ) (f : Row → Row) → ((b : ℕ) (r : Row) → f (later_row b r) ≡ later_row b (f r))
    → (i n : ℕ) (rows : Rows) → in_slot n f (later_rows by i rows) ≡ later_rows by i (in_slot n f rows)
in_slot_later by f moves i n [] = refl
in_slot_later by f moves i zero (None ∷ rows) = refl
in_slot_later by f moves i zero (Some r ∷ rows) = ap (λ x. Some x ∷ later_rows by (suc i) rows) (moves (by i) r)
in_slot_later by f moves i (suc n) (o ∷ rows) = ap (λ rs. option_map (later_row (by i)) o ∷ rs) (in_slot_later by f moves (suc i) n rows)

-- ---- one row

module _ (d b : ℕ) (r : Row) (steady : Steady d b r) where
  due_later : (j : ℕ) → 1 ≤ j → due r.stream (j + b) ≡ due r.stream j + d
  unfolding born
  due_later j some =
      let t : ℕ = r.stream.period in
      let number : j + b - 1 ≡ j - 1 + b = omega arith in
      omega (arith, ap (λ n. n * t) number, add-mul (j - 1) b t, steady.whole)

  pub left_later : (u j : ℕ) → 1 ≤ j → due r.stream (j + b) - (u + d) ≡ due r.stream j - u
  left_later u j some = omega (arith, due_later j some)

  pub hopeless_later : (u j : ℕ) → 1 ≤ j → hopeless (u + d) r.stream (j + b) ≡ hopeless u r.stream j
  hopeless_later u j some = let e = due_later j some in grind (arith, nat_tests)

  pub released_later : (u : ℕ) → release_row (u + d) (later_row b r) ≡ later_row b (release_row u r)
  released_later u =
      let t : ℕ = r.stream.period in
      let phase : (u + d) % t ≡ u % t = ap (λ x. (u + x) % t) (sym steady.whole) ∙ add-mul-mod_self_right u b t in
      let number : (u + d) / t + 1 ≡ u / t + 1 + b =
      omega (arith, ap (λ x. (u + x) / t) steady.whole, add-mul-div_right u b steady.positive) in
      ap₂ (λ x n. cond (eqb x 0) (with_waiting (Some n) r) (later_row b r)) phase number
      ∙ cond_under (later_row b) (eqb (u % t) 0) (with_waiting (Some (u / t + 1)) r) r

  pub dropping_later : (u : ℕ) (w : Option ℕ) → Counted w → dropping (u + d) (option_map (λ j. j + b) w) (later_row b r) ≡ later_row b (dropping u w r)
  dropping_later u None c = refl
  dropping_later u (Some j) c =
      ap (λ t. cond t (with_outcome false (with_waiting None r)) (later_row b r)) (hopeless_later u j c)
      ∙ cond_under (later_row b) (hopeless u r.stream j) (with_outcome false (with_waiting None r)) r

  pub released_keeps : (u : ℕ) → Steady d b (release_row u r)
  released_keeps u = by (eqb (u % r.stream.period) 0)
    where
      by : (t : Bool) → Steady d b (cond t (with_waiting (Some (u / r.stream.period + 1)) r) r)
      by true = record { positive = steady.positive; whole = steady.whole; counted = omega arith }
      by false = steady

  pub waiting_none_keeps : Steady d b (with_waiting None r)
  waiting_none_keeps = record { positive = steady.positive; whole = steady.whole; counted = tt }

  pub outcome_keeps : (met : Bool) → Steady d b (with_outcome met r)
  outcome_keeps met = record { positive = steady.positive; whole = steady.whole; counted = steady.counted }

  pub dropping_keeps : (u : ℕ) (w : Option ℕ) → Steady d b (dropping u w r)
  dropping_keeps u None = steady
  dropping_keeps u (Some j) = by (hopeless u r.stream j)
    where
      by : (t : Bool) → Steady d b (cond t (with_outcome false (with_waiting None r)) r)
      by true = record { positive = steady.positive; whole = steady.whole; counted = tt }
      by false = steady
