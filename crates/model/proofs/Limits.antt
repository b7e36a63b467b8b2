-- The two limits of a table: what lays a stream within them, and that a front of a table within them is within them too. Assumes nothing.
use Rattle.std.proofs.Common.{◌≡◌, ℕ, zero, suc, ◌<◌, ◌≤◌, [], ◌∷◌, ◌++◌, get_or, set, replicate, Some, None, Ok, refl, mul-le-mul_left, arith}
use native.Mathlib.Nat.{mod_self}
use Rattle.std.proofs.lemmas.Bool.Decides.{nat_tests}
use Rattle.binomial.proofs.Sums.{at_least_positive}
use Rattle.model.specs.Streams.{Stream, stream}
use Rattle.model.specs.Tables.{Table, hyper_period, histories, passing_count, Every, placed}
use Rattle.model.proofs.Multiples.{divides_le}
use Rattle.model.proofs.Periods.{Periodic, hyper_positive, common_from_divides, divides_from_common}
use Rattle.model.proofs.Counts.{Passable, histories_positive}

-- P is at most 36,864 and N at most 1,048,576
pub record Limits (t : Table) : Type 0 where
  pub period : hyper_period t ≤ 36864
  pub few : histories t ≤ 1048576

-- every stream has a positive period and a history that passes
pub record Sound (t : Table) : Type 0 where
  pub periodic : Periodic t
  pub passable : Passable t

-- a stream that passes its tests has both
pub stream_sound : (t d c m k h : ℕ) (s : Stream) → stream t d c m k h ≡ Ok s → (0 < s.period) × (1 ≤ passing_count s)
stream_sound t d c m k h s is =
    let parts : (0 < s.period) × (s.history.m ≤ s.history.k) = grind (arith, nat_tests) in
    (parts.0, at_least_positive s.history.k s.history.m parts.1)

-- a stream is laid where the slot is one of the eight and empty, and the table then keeps the limits
pub placed_ok : (t : Table) (i : ℕ) (s : Stream) (u : Table) → placed t i s ≡ Ok u → (u ≡ set t i (Some s)) × Limits (set t i (Some s))
placed_ok t i s u is =
    (grind (arith, nat_tests), record { period = grind (arith, nat_tests); few = grind (arith, nat_tests) })

pub placed_within : (t : Table) (i : ℕ) (s : Stream) → i < 8 → get_or t i None ≡ None → Limits (set t i (Some s)) → placed t i s ≡ Ok (set t i (Some s))
placed_within t i s l n h = grind (arith, nat_tests)

-- the streams of a front are among those of the table
every_front : (P : Stream → Type 0) (xs ys : Table) → Every P (xs ++ ys) → Every P xs
every_front P [] ys e = tt
every_front P (None ∷ xs) ys e = every_front P xs ys e
every_front P (Some s ∷ xs) ys e = (e.0, every_front P xs ys e.1)

hyper_period_front : (xs ys : Table) → Periodic (xs ++ ys) → hyper_period xs ≤ hyper_period (xs ++ ys)
hyper_period_front xs ys h =
    let n : ℕ = hyper_period (xs ++ ys) in
    divides_le (hyper_period xs) n (hyper_positive (xs ++ ys) h)
    (divides_from_common xs (every_front _ xs ys h) n (every_front _ xs ys (common_from_divides (xs ++ ys) h n (mod_self n))))

histories_front : (xs ys : Table) → Passable (xs ++ ys) → histories xs ≤ histories (xs ++ ys)
unfolding histories
histories_front [] ys h = histories_positive ys h
histories_front (None ∷ xs) ys h = histories_front xs ys h
histories_front (Some s ∷ xs) ys h = mul-le-mul_left (passing_count s) (histories_front xs ys h.1)

-- empty slots behind a table change neither number
hyper_period_nones : (xs : Table) (k : ℕ) → hyper_period (xs ++ replicate k None) ≡ hyper_period xs
unfolding hyper_period
hyper_period_nones [] zero = refl
hyper_period_nones [] (suc k) = hyper_period_nones [] k
hyper_period_nones (None ∷ xs) k = hyper_period_nones xs k
hyper_period_nones (Some s ∷ xs) k = rw (hyper_period_nones xs k)

histories_nones : (xs : Table) (k : ℕ) → histories (xs ++ replicate k None) ≡ histories xs
unfolding histories
histories_nones [] zero = refl
histories_nones [] (suc k) = histories_nones [] k
histories_nones (None ∷ xs) k = histories_nones xs k
histories_nones (Some s ∷ xs) k = rw (histories_nones xs k)

-- a table within the limits was within them when its first streams alone were laid
pub limits_front : (xs ys : Table) (k : ℕ) → Sound (xs ++ ys) → Limits (xs ++ ys) → Limits (xs ++ replicate k None)
limits_front xs ys k sound h =
    record {
      period = omega (arith, hyper_period_nones xs k, hyper_period_front xs ys sound.periodic);
      few = omega (arith, histories_nones xs k, histories_front xs ys sound.passable);
    }
