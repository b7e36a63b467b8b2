-- The hyper-period of a table whose periods are positive is the least positive number that all periods divide. Assumes nothing.
use Rattle.std.proofs.Common.{◌≡◌, ℕ, zero, suc, ◌<◌, [], ◌∷◌, length, get_or, set, Some, None, le_of_suc-le-suc, not-suc-le-zero, arith}
use native.Mathlib.Nat.{mod-one, mod_self}
use Rattle.model.specs.Streams.{Stream}
use Rattle.model.specs.Tables.{Table, Divides, lcm, hyper_period, Every, Common, LeastCommon}
use Rattle.model.proofs.Multiples.{lcm_positive, divides_lcm_left, divides_lcm_right, lcm_divides, divides_trans, divides_antisym, divides_le, lcm_assoc}

-- every period of the table is positive
abbrev pub Periodic : Table → Type 0
Periodic t = Every (λ s. 0 < s.period) t

pub hyper_positive : (t : Table) → Periodic t → 0 < hyper_period t
unfolding hyper_period
hyper_positive [] h = omega arith
hyper_positive (None ∷ t) h = hyper_positive t h
hyper_positive (Some s ∷ t) h = lcm_positive s.period (hyper_period t) h.0 (hyper_positive t h.1)

-- the periods divide what the hyper-period divides
pub common_from_divides : (t : Table) → Periodic t → (n : ℕ) → Divides (hyper_period t) n → Common t n
unfolding hyper_period
common_from_divides [] h n d = tt
common_from_divides (None ∷ t) h n d = common_from_divides t h n d
common_from_divides (Some s ∷ t) h n d =
    let p : ℕ = s.period in
    let q : ℕ = hyper_period t in
    let q-positive : 0 < q = hyper_positive t h.1 in (
      divides_trans p (lcm p q) n (divides_lcm_left p q h.0 q-positive) d,
      common_from_divides t h.1 n (divides_trans q (lcm p q) n (divides_lcm_right p q h.0 q-positive) d),
    )

-- the hyper-period divides what the periods divide
pub divides_from_common : (t : Table) → Periodic t → (n : ℕ) → Common t n → Divides (hyper_period t) n
unfolding hyper_period
divides_from_common [] h n c = mod-one n
divides_from_common (None ∷ t) h n c = divides_from_common t h n c
divides_from_common (Some s ∷ t) h n c =
    lcm_divides s.period (hyper_period t) h.0 (hyper_positive t h.1) n c.0 (divides_from_common t h.1 n c.1)

pub hyper_least_common : (t : Table) → Periodic t → LeastCommon t (hyper_period t)
hyper_least_common t h =
    record {
      positive = hyper_positive t h;
      common = common_from_divides t h (hyper_period t) (mod_self (hyper_period t));
      least = λ q q-positive c. divides_le (hyper_period t) q q-positive (divides_from_common t h q c);
    }

-- the periods one after the other: what p and the rest give, with a period more on p's side
pub hyper_period_more : (p : ℕ) (s : Stream) (t : Table) → 0 < p → 0 < s.period → Periodic t → lcm p (hyper_period (Some s ∷ t)) ≡ lcm (lcm p s.period) (hyper_period t)
unfolding hyper_period
hyper_period_more p s t hp hs ht = lcm_assoc p s.period (hyper_period t) hp hs (hyper_positive t ht)

-- the streams of a table keep a property when one that has it is laid into a slot
every_laid : (P : Stream → Type 0) (t : Table) (i : ℕ) (s : Stream) → P s → Every P t → Every P (set t i (Some s))
every_laid P [] i s h e = tt
every_laid P (None ∷ t) zero s h e = (h, e)
every_laid P (Some r ∷ t) zero s h e = (h, e.1)
every_laid P (None ∷ t) (suc i) s h e = every_laid P t i s h e
every_laid P (Some r ∷ t) (suc i) s h e = (e.0, every_laid P t i s h e.1)

-- and had it before, if the slot was empty
every_before : (P : Stream → Type 0) (t : Table) (i : ℕ) (s : Stream) → i < length t → get_or t i None ≡ None → Every P (set t i (Some s)) → P s × Every P t
every_before P [] i s l n e = absurd (not-suc-le-zero l)
every_before P (None ∷ t) zero s l n e = e
every_before P (Some r ∷ t) zero s l n e = absurd (let z : ◌≡◌ {A = ℕ} 0 1 = cc in omega arith)
every_before P (None ∷ t) (suc i) s l n e = every_before P t i s (le_of_suc-le-suc l) n e
every_before P (Some r ∷ t) (suc i) s l n e =
    let h : P s × Every P t = every_before P t i s (le_of_suc-le-suc l) n e.1 in (h.0, (e.0, h.1))

-- a stream laid into an empty slot brings its period into the hyper-period
pub hyper_period_laid : (t : Table) (i : ℕ) (s : Stream) → Periodic t → 0 < s.period → i < length t → get_or t i None ≡ None → hyper_period (set t i (Some s)) ≡ lcm (hyper_period t) s.period
hyper_period_laid t i s h p l n =
    let u : Table = set t i (Some s) in
    let old : ℕ = hyper_period t in
    let new : ℕ = hyper_period u in
    let both : ℕ = lcm old s.period in
    let old-positive : 0 < old = hyper_positive t h in
    let periodic : Periodic u = every_laid (λ r. 0 < r.period) t i s p h in
    let common : Common t both = common_from_divides t h both (divides_lcm_left old s.period old-positive p) in
    let parts : Divides s.period new × Common t new =
    every_before (λ r. Divides r.period new) t i s l n (common_from_divides u periodic new (mod_self new)) in
    divides_antisym new both
    (divides_from_common u periodic both
    (every_laid (λ r. Divides r.period both) t i s (divides_lcm_right old s.period old-positive p) common))
    (lcm_divides old s.period old-positive p new (divides_from_common t h new parts.1) parts.0)
