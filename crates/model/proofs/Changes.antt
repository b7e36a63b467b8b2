-- What emptying a slot, or writing another history into it, does to the two numbers of a table. Assumes nothing.
use Rattle.std.proofs.Common.{◌≡◌, ℕ, zero, suc, ◌^◌, ◌≤◌, cond, leb, [], ◌∷◌, get_or, set, Some, None, Ok, Err, Option, sym, refl, ap, ◌∙◌, le_trans, mul_comm, mul-le-mul_left, le-mul_of_pos_right, arith}
use native.Mathlib.Nat.{mod_self}
use Rattle.std.proofs.lemmas.Bool.Decides.{nat_tests}
use Rattle.refusal.specs.Tests.{and_then}
use Rattle.refusal.specs.declared.Refusal.TheVariants.{HistoryWidth}
use Rattle.model.specs.Bench.{occupied, taken, with_history, primed}
use Rattle.model.specs.Streams.{Stream}
use Rattle.model.specs.Tables.{Table, hyper_period, histories, passing_count, Every}
use Rattle.model.proofs.Multiples.{divides_le}
use Rattle.model.proofs.Periods.{Periodic, hyper_positive, common_from_divides, divides_from_common}
use Rattle.model.proofs.Counts.{Passable}
use Rattle.model.proofs.Limits.{Limits, Sound}

-- the streams that are left had the property before
every_cleared : (P : Stream → Type 0) (t : Table) (i : ℕ) → Every P t → Every P (set t i None)
every_cleared P [] i e = tt
every_cleared P (None ∷ t) zero e = e
every_cleared P (Some s ∷ t) zero e = e.1
every_cleared P (None ∷ t) (suc i) e = every_cleared P t i e
every_cleared P (Some s ∷ t) (suc i) e = (e.0, every_cleared P t i e.1)

hyper_period_cleared : (t : Table) (i : ℕ) → Periodic t → hyper_period (set t i None) ≤ hyper_period t
hyper_period_cleared t i h =
    let n : ℕ = hyper_period t in
    divides_le (hyper_period (set t i None)) n (hyper_positive t h)
    (divides_from_common (set t i None) (every_cleared _ t i h) n (every_cleared _ t i (common_from_divides t h n (mod_self n))))

histories_cleared : (t : Table) (i : ℕ) → Passable t → histories (set t i None) ≤ histories t
unfolding histories
histories_cleared [] i h = omega arith
histories_cleared (None ∷ t) zero h = omega arith
histories_cleared (Some s ∷ t) zero h = omega (arith, mul_comm (passing_count s) (histories t), le-mul_of_pos_right (histories t) h.0)
histories_cleared (None ∷ t) (suc i) h = histories_cleared t i h
histories_cleared (Some s ∷ t) (suc i) h = mul-le-mul_left (passing_count s) (histories_cleared t i h.1)

-- a table within its limits is within them with a slot emptied
pub limits_cleared : (t : Table) (i : ℕ) → Sound t → Limits t → Limits (set t i None)
limits_cleared t i sound h =
    record {
      period = le_trans (hyper_period_cleared t i sound.periodic) h.period;
      few = le_trans (histories_cleared t i sound.passable) h.few;
    }

-- a stream of the same period in the place of another
hyper_period_again : (t : Table) (i : ℕ) (s u : Stream) → get_or t i None ≡ Some s → u.period ≡ s.period → hyper_period (set t i (Some u)) ≡ hyper_period t
unfolding hyper_period
hyper_period_again [] i s u is same = refl
hyper_period_again (None ∷ t) zero s u is same = absurd (let z : ◌≡◌ {A = ℕ} 0 1 = cc in omega arith)
hyper_period_again (Some r ∷ t) zero s u is same = cc
hyper_period_again (None ∷ t) (suc i) s u is same = hyper_period_again t i s u is same
hyper_period_again (Some r ∷ t) (suc i) s u is same = rw (hyper_period_again t i s u is same)

-- and one of as many passing histories
histories_again : (t : Table) (i : ℕ) (s u : Stream) → get_or t i None ≡ Some s → passing_count u ≡ passing_count s → histories (set t i (Some u)) ≡ histories t
unfolding histories
histories_again [] i s u is same = refl
histories_again (None ∷ t) zero s u is same = absurd (let z : ◌≡◌ {A = ℕ} 0 1 = cc in omega arith)
histories_again (Some r ∷ t) zero s u is same = cc
histories_again (None ∷ t) (suc i) s u is same = histories_again t i s u is same
histories_again (Some r ∷ t) (suc i) s u is same = rw (histories_again t i s u is same)

occupied_ok : (o : Option Stream) (s : Stream) → occupied o ≡ Ok s → o ≡ Some s
occupied_ok None s is = absurd (let z : ◌≡◌ {A = ℕ} 0 1 = cc in omega arith)
occupied_ok (Some r) s is = cc

taken_ok : (t : Table) (i : ℕ) (s : Stream) → taken t i ≡ Ok s → get_or t i None ≡ Some s
taken_ok t i s is = occupied_ok (get_or t i None) s (grind (arith, nat_tests))

-- a table within its limits is within them with another history written
pub limits_primed : (t : Table) (i h : ℕ) (s : Stream) → taken t i ≡ Ok s → Limits t → Limits (set t i (Some (with_history h s)))
limits_primed t i h s is limits =
    record {
      period = omega (arith, hyper_period_again t i s (with_history h s) (taken_ok t i s is) refl);
      few = omega (arith, histories_again t i s (with_history h s) (taken_ok t i s is) refl);
    }

-- the slot of a table is primed where it holds a stream and the history fits
pub primed_ok :
    (t : Table) (i h : ℕ) (s u : Stream) → Ok s ≡ taken t i → Ok u ≡ cond (leb (2 ^ s.history.k) h) (Err HistoryWidth) (Ok (with_history h s))
    → (u ≡ with_history h s) × (primed t i h ≡ Ok (set t i (Some u)))
primed_ok t i h s u is fits =
    let e : u ≡ with_history h s = grind (arith, nat_tests) in
    let p : primed t i h ≡ Ok (set t i (Some (with_history h s))) =
    ap (λ r. and_then r (λ s. cond (leb (2 ^ s.history.k) h) (Err HistoryWidth) (Ok (set t i (Some (with_history h s)))))) (sym is)
    ∙ grind (arith, nat_tests) in
    (e, cc)
