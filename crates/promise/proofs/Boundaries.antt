-- At its boundaries the schedule from a sound state is idle, and the histories there tell what follows. Assumes nothing.
use Rattle.std.proofs.Common.{◌≡◌, ℕ, zero, suc, ◌+◌, ◌-◌, ◌*◌, ◌/◌, ◌%◌, ◌<◌, ◌≤◌, Bool, [], ◌∷◌, Some, None, sym, refl, ap, ◌∙◌, subst, add_assoc, mod-lt, add-mul, one-mul, div-add-mod', arith}
use native.Mathlib.Nat.{add-mod-mod, add-mul-mod_self_right, mod_self}
use Rattle.model.specs.Streams.{Stream}
use Rattle.model.specs.Tables.{Divides, Every, Common}
use Rattle.model.specs.Ready.{Ready}
use Rattle.model.specs.Machine.{Row, Rows, State}
use Rattle.model.specs.Schedule.{after}
use Rattle.model.specs.Forecast.{table_of, period_of, units_to, at_boundary}
use Rattle.model.proofs.Periods.{Periodic, hyper_positive, common_from_divides}
use Rattle.laws.specs.Sound.{LawfulStream, row_at, Sound}
use Rattle.laws.specs.Units.{Clear}
use Rattle.laws.proofs.Units.{release_laws}
use Rattle.rounds.specs.Rounds.{Told}
use Rattle.rounds.specs.Boundaries.{table_of as streams-of, bits_of, Idle, Agrees}
use Rattle.rounds.proofs.Returns.{after_more, Returning, bits_after, rounds_agree, rounds_told}
use Rattle.promise.specs.Boundaries.{boundary, Boundary, AlikeFrom}
use Rattle.promise.proofs.Schedules.{after_now, after_sound, after_table}

-- ---- the streams of the rows as a table

pub every_from_rows : (P : Stream → Type 0) (rows : Rows) → ((i : ℕ) (r : Row) → row_at rows i ≡ Some r → P r.stream) → Every P (streams-of rows)
every_from_rows P [] h = tt
every_from_rows P (None ∷ rows) h = every_from_rows P rows (λ i r e. h (suc i) r e)
every_from_rows P (Some r ∷ rows) h = (h 0 r refl, every_from_rows P rows (λ i q e. h (suc i) q e))

pub every_row : (P : Stream → Type 0) (rows : Rows) → Every P (streams-of rows) → (i : ℕ) (r : Row) → row_at rows i ≡ Some r → P r.stream
every_row P [] h i r e = absurd (let z : ◌≡◌ {A = ℕ} 0 1 = cc in omega arith)
every_row P (None ∷ rows) h zero r e = absurd (let z : ◌≡◌ {A = ℕ} 0 1 = cc in omega arith)
every_row P (None ∷ rows) h (suc i) r e = every_row P rows h i r e
every_row P (Some q ∷ rows) h zero r e = let same : q ≡ r = cc in subst (λ (x : Row). P x.stream) same h.0
every_row P (Some q ∷ rows) h (suc i) r e = every_row P rows h.1 i r e

pub periodic : (s : State) → Sound s → Periodic (table_of s)
periodic s h = every_from_rows (λ f. 0 < f.period) s.rows (λ i r e.
    let l : LawfulStream r.stream = (h.rows i r e).lawful in omega (arith, l.service_some, l.service_fits, l.deadline_fits))

pub period_positive : (s : State) → Sound s → 0 < period_of s
period_positive s h = hyper_positive (table_of s) (periodic s h)

-- ---- the units between boundaries

-- the first multiple of p that is not below n
pub up_to_multiple : (n p : ℕ) → 0 < p → Divides p (n + (p - n % p) % p)
up_to_multiple n p some =
    let whole : n + (p - n % p) ≡ p + n / p * p = omega (arith, div-add-mod' n p, mod-lt n some) in
    add-mod-mod n (p - n % p) p ∙ ap (λ x. x % p) whole ∙ add-mul-mod_self_right p (n / p) p ∙ mod_self p

pub units_first : (s : State) → units_to s 0 ≡ (period_of s - s.now % period_of s) % period_of s
unfolding units_to
units_first s = omega arith

pub units_are : (s : State) (i : ℕ) → units_to s i ≡ units_to s 0 + i * period_of s
unfolding units_to
units_are s i = omega arith

pub units_next : (s : State) (i : ℕ) → units_to s (i + 1) ≡ units_to s i + period_of s
unfolding units_to
units_next s i = omega (arith, add-mul i 1 (period_of s), one-mul (period_of s))

pub units_divide : (s : State) (i : ℕ) → 0 < period_of s → Divides (period_of s) (s.now + units_to s i)
unfolding units_to
units_divide s i some =
    let p : ℕ = period_of s in
    let first : ℕ = (p - s.now % p) % p in
    ap (λ x. x % p) (sym (add_assoc s.now first (i * p))) ∙ add-mul-mod_self_right (s.now + first) i p ∙ up_to_multiple s.now p some

-- ---- the boundaries

module _ (before : Ready → Ready → Bool) (s : State) (h : Sound s) where
  pub boundaries : (i : ℕ) → Boundary before s i
  boundaries i =
      let n : ℕ = units_to s i in
      let x : State = after before s n in
      let sound : Sound x = after_sound before s h n in
      let now-is : x.now ≡ s.now + n = after_now before s n in
      let table : table_of x ≡ table_of s = after_table before s h n in
      let multiple : Divides (period_of s) x.now =
      ap (λ u. u % period_of s) now-is ∙ units_divide s i (period_positive s h) in
      let common : Common (table_of x) x.now =
      subst (λ t. Common t x.now) (sym table) (common_from_divides (table_of s) (periodic s h) x.now multiple) in
      let clear : Clear x = (release_laws x sound).clear (every_row (λ f. Divides f.period x.now) x.rows common) in
      record {
        instant = now-is;
        multiple = multiple;
        idle = record { table = table; none_waits = clear.none_waits; bus_free = clear.none_sent };
      }

  -- boundary i stands i hyper-periods after boundary 0
  pub boundary_from_first : (i : ℕ) → boundary before s i ≡ after before (boundary before s 0) (i * period_of s)
  boundary_from_first i = ap (after before s) (units_are s i) ∙ after_more before s (units_to s 0) (i * period_of s)

  pub returning : Returning before (table_of s) (period_of s) (boundary before s 0)
  returning =
      let p : ℕ = period_of s in
      record {
        positive = periodic s h;
        common = common_from_divides (table_of s) (periodic s h) p (mod_self p);
        idle = λ i. subst (Idle (table_of s)) (boundary_from_first i) (boundaries i).idle;
        instant = λ i. after_now before (boundary before s 0) (i * p);
      }

  histories_at : (i : ℕ) → at_boundary before s i ≡ bits_after before (period_of s) (boundary before s 0) i
  unfolding at_boundary
  histories_at i = ap (λ x. bits_of x.rows) (boundary_from_first i)

  pub alike_from : (i j : ℕ) → i ≤ j → at_boundary before s i ≡ at_boundary before s j → AlikeFrom before s i j
  alike_from i j le e n =
      let p : ℕ = period_of s in
      let x : State = boundary before s 0 in
      subst (λ a. Agrees before ((j - i) * p) a (boundary before s j) n) (sym (boundary_from_first i))
      (subst (λ b. Agrees before ((j - i) * p) (after before x (i * p)) b n) (sym (boundary_from_first j))
      (rounds_agree before (table_of s) p x returning i j le (sym (histories_at i) ∙ e ∙ histories_at j) n))

  pub boundaries_told : Told (at_boundary before s)
  boundaries_told i j e =
      histories_at (i + 1)
      ∙ rounds_told before (table_of s) (period_of s) (boundary before s 0) returning i j (sym (histories_at i) ∙ e ∙ histories_at j)
      ∙ sym (histories_at (j + 1))
