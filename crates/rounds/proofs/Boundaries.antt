-- Two idle states with one table and equal histories: the later one is the earlier one moved in time. Assumes nothing.
use Rattle.std.proofs.Common.{◌≡◌, ℕ, suc, ◌+◌, ◌*◌, ◌/◌, ◌<◌, Bool, ◌||◌, List, [], ◌∷◌, map, get_or, Some, None, Option, sym, refl, ap, ◌∙◌, subst, ap₂, zero-add, arith}
use native.Mathlib.Nat.{div-mul_cancel, dvd_of_mod-eq-zero}
use Rattle.std.specs.Option.{option_map}
use Rattle.model.specs.Tables.{Table, Divides, Every, Common}
use Rattle.model.specs.Ready.{Ready}
use Rattle.model.specs.Machine.{Row, Rows, State, Outcome, with_waiting}
use Rattle.model.specs.Schedule.{after, given}
use Rattle.rounds.specs.Boundaries.{table_of, bits_of, Idle, failed, kind, Alike, Agrees}
use Rattle.rounds.proofs.Shift.{later_row, later_rows, later_transit, later, later_outcome, Counted, Steady, Moves, Slots, Regular}
use Rattle.rounds.proofs.Steps.{after_later, given_later}

-- ---- rows by what stands in them

QuietRows : Rows → Type 0
QuietRows rows = (i : ℕ) (r : Row) → get_or rows i None ≡ Some r → r.waits ≡ None

rows_tail : (o : Option Row) (rows : Rows) → QuietRows (o ∷ rows) → QuietRows rows
unfolding QuietRows
rows_tail o rows q i r e = q (suc i) r e

row_same : (a b : Row) → a.stream ≡ b.stream → a.bits ≡ b.bits → a.waits ≡ None → b.waits ≡ None → a ≡ b
row_same a b es eb wa wb =
    let ew : a.waits ≡ b.waits = wa ∙ sym wb in
    λ i. record { stream = es i; bits = eb i; waits = ew i }

-- equal tables and histories, with nothing waiting, are equal rows
rows_same : (xs ys : Rows) → table_of xs ≡ table_of ys → bits_of xs ≡ bits_of ys → QuietRows xs → QuietRows ys → xs ≡ ys
unfolding QuietRows
rows_same [] [] et eb qx qy = refl
rows_same [] (y ∷ ys) et eb qx qy = absurd (let z : ◌≡◌ {A = ℕ} 0 1 = cc in omega arith)
rows_same (x ∷ xs) [] et eb qx qy = absurd (let z : ◌≡◌ {A = ℕ} 0 1 = cc in omega arith)
rows_same (None ∷ xs) (None ∷ ys) et eb qx qy =
    ap (λ rs. None ∷ rs) (rows_same xs ys (cc) (cc) (rows_tail None xs qx) (rows_tail None ys qy))
rows_same (None ∷ xs) (Some y ∷ ys) et eb qx qy = absurd (let z : ◌≡◌ {A = ℕ} 0 1 = cc in omega arith)
rows_same (Some x ∷ xs) (None ∷ ys) et eb qx qy = absurd (let z : ◌≡◌ {A = ℕ} 0 1 = cc in omega arith)
rows_same (Some x ∷ xs) (Some y ∷ ys) et eb qx qy =
    ap₂ (λ r rs. Some r ∷ rs) (row_same x y (cc) (cc) (qx 0 x refl) (qy 0 y refl))
    (rows_same xs ys (cc) (cc) (rows_tail (Some x) xs qx) (rows_tail (Some y) ys qy))

-- ---- nothing waits, so that no row moves

row_stays : (b : ℕ) (r : Row) → r.waits ≡ None → later_row b r ≡ r
row_stays b r e = ap (λ w. with_waiting w r) (ap (option_map (λ j. j + b)) e ∙ sym e)

rows_stay : (by : ℕ → ℕ) (i : ℕ) (rows : Rows) → QuietRows rows → later_rows by i rows ≡ rows
unfolding QuietRows
rows_stay by i [] q = refl
rows_stay by i (None ∷ rows) q = ap (λ rs. None ∷ rs) (rows_stay by (suc i) rows (rows_tail None rows q))
rows_stay by i (Some r ∷ rows) q =
    ap₂ (λ x rs. Some x ∷ rs) (row_stays (by i) r (q 0 r refl)) (rows_stay by (suc i) rows (rows_tail (Some r) rows q))

-- ---- by how many frames a slot moves

-- d in periods of the row of a slot
unfoldable pub frames : ℕ → Option Row → ℕ
frames d None = 0
frames d (Some r) = d / r.stream.period

steady : (d b : ℕ) (r : Row) → 0 < r.stream.period → Divides r.stream.period d → b ≡ d / r.stream.period → r.waits ≡ None → Steady d b r
steady d b r positive divides e quiet =
    record {
      positive = positive;
      whole = ap (λ n. n * r.stream.period) e ∙ div-mul_cancel r.stream.period (dvd_of_mod-eq-zero r.stream.period divides);
      counted = subst Counted (sym quiet) tt;
    }

rows_regular : (d : ℕ) (by : ℕ → ℕ) (i : ℕ) (rows : Rows) → ((n : ℕ) → by (i + n) ≡ frames d (get_or rows n None))
    → Every (λ s. 0 < s.period) (table_of rows) → Common (table_of rows) d → QuietRows rows → Slots (Moves d by) i rows
unfolding QuietRows frames
rows_regular d by i [] e p c q = tt
rows_regular d by i (None ∷ rows) e p c q =
    rows_regular d by (suc i) rows (λ n. let next : suc i + n ≡ i + suc n = omega arith in ap by next ∙ e (suc n)) p c (rows_tail None rows q)
rows_regular d by i (Some r ∷ rows) e p c q =
    let here : i ≡ i + 0 = omega arith in (
      steady d (by i) r p.0 c.0 (ap by here ∙ e 0) (q 0 r refl),
      rows_regular d by (suc i) rows (λ n. let next : suc i + n ≡ i + suc n = omega arith in ap by next ∙ e (suc n)) p.1 c.1
          (rows_tail (Some r) rows q),
    )

-- ---- what a moved state and moved outcomes still tell

table_later : (by : ℕ → ℕ) (i : ℕ) (rows : Rows) → table_of (later_rows by i rows) ≡ table_of rows
table_later by i [] = refl
table_later by i (None ∷ rows) = ap (λ ts. None ∷ ts) (table_later by (suc i) rows)
table_later by i (Some r ∷ rows) = ap (λ ts. Some r.stream ∷ ts) (table_later by (suc i) rows)

bits_later : (by : ℕ → ℕ) (i : ℕ) (rows : Rows) → bits_of (later_rows by i rows) ≡ bits_of rows
bits_later by i [] = refl
bits_later by i (None ∷ rows) = ap (λ bs. None ∷ bs) (bits_later by (suc i) rows)
bits_later by i (Some r ∷ rows) = ap (λ bs. Some r.bits ∷ bs) (bits_later by (suc i) rows)

kinds_later : (d : ℕ) (by : ℕ → ℕ) (os : List Outcome) → map kind (map (later_outcome d by) os) ≡ map kind os
kinds_later d by [] = refl
kinds_later d by (o ∷ os) = ap (λ ks. kind o ∷ ks) (kinds_later d by os)

instants_later : (d : ℕ) (by : ℕ → ℕ) (os : List Outcome) → map (λ o. o.instant) (map (later_outcome d by) os) ≡ map (λ o. o.instant + d) os
instants_later d by [] = refl
instants_later d by (o ∷ os) = ap (λ us. (o.instant + d) ∷ us) (instants_later d by os)

failed_later : (d : ℕ) (by : ℕ → ℕ) (os : List Outcome) → failed (map (later_outcome d by) os) ≡ failed os
failed_later d by [] = refl
failed_later d by (o ∷ os) = ap (λ f. o.failure || f) (failed_later d by os)

-- ---- two idle states

unfoldable pub by_frames : ℕ → State → ℕ → ℕ
by_frames d s i = frames d (get_or s.rows i None)

module _ (t : Table) (d : ℕ) (a b : State) (alike : Alike t d a b) where
  pub alike_regular : Regular d (by_frames d a) a
  unfolding QuietRows by_frames
  alike_regular =
      let idle : Idle t a = alike.first in
      rows_regular d (by_frames d a) 0 a.rows (λ n. ap (by_frames d a) (zero-add n))
      (subst (Every (λ s. 0 < s.period)) (sym idle.table) alike.positive) (subst (λ x. Common x d) (sym idle.table) alike.common)
      idle.none_waits

  pub alike_later : b ≡ later d (by_frames d a) a
  unfolding QuietRows
  alike_later =
      let by : ℕ → ℕ = by_frames d a in
      let ia : Idle t a = alike.first in
      let ib : Idle t b = alike.second in
      let rows : b.rows ≡ later_rows by 0 a.rows =
      rows_same b.rows a.rows (ib.table ∙ sym ia.table) alike.bits ib.none_waits ia.none_waits
      ∙ sym (rows_stay by 0 a.rows ia.none_waits) in
      let transit : b.transit ≡ option_map (later_transit d by) a.transit = ib.bus_free ∙ sym (ap (option_map (later_transit d by)) ia.bus_free) in
      λ i. record { now = alike.apart i; rows = rows i; transit = transit i }

  pub same_again : (before : Ready → Ready → Bool) (n : ℕ) → Agrees before d a b n
  same_again before n =
      let by : ℕ → ℕ = by_frames d a in
      let there : State = after before a n in
      let then : after before b n ≡ later d by there = ap (λ s. after before s n) alike_later ∙ after_later d by before a n alike_regular in
      let told : given before b n ≡ map (later_outcome d by) (given before a n) =
      ap (λ s. given before s n) alike_later ∙ given_later d by before a n alike_regular in
      record {
        apart = ap (λ s. s.now) then;
        table = ap (λ s. table_of s.rows) then ∙ table_later by 0 there.rows;
        bits = ap (λ s. bits_of s.rows) then ∙ bits_later by 0 there.rows;
        kinds = ap (map kind) told ∙ kinds_later d by (given before a n);
        instants = ap (map (λ o. o.instant)) told ∙ instants_later d by (given before a n);
        failures = ap failed told ∙ failed_later d by (given before a n);
      }
