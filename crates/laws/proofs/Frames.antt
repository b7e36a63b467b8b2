-- When the frames of a stream are released and due. Assumes nothing.
use Rattle.std.proofs.Common.{◌≡◌, ℕ, suc, ◌+◌, ◌-◌, ◌*◌, ◌/◌, ◌<◌, ◌≤◌, sym, ap, ◌∙◌, inl, inr, suc-mul, mul_comm, mul-le-mul_left, mul-div_cancel, arith}
use native.Mathlib.Nat.{mul-div_cancel', dvd_of_mod-eq-zero, mul-mod_left}
use Rattle.std.proofs.lemmas.Bool.{cases_lt}
use Rattle.model.specs.Streams.{Stream}
use Rattle.model.specs.Tables.{Divides}
use Rattle.model.specs.Machine.{born, due}
use Rattle.laws.specs.Sound.{LawfulStream}

-- between two multiples of p there is a whole p
next_multiple : (p u n : ℕ) → Divides p u → n * p < u → n * p + p ≤ u
next_multiple p u n d l =
    let e : p * (u / p) ≡ u = mul-div_cancel' p (dvd_of_mod-eq-zero p d) in
    elim (cases_lt n (u / p)) [
      | inl less ↦ omega (arith, e, mul-le-mul_left p less, mul_comm p (suc n), suc-mul n p)
      | inr most ↦ absurd (omega (arith, e, mul-le-mul_left p most, mul_comm p n))
    ]

-- a frame released before an instant that the period divides is due by then
pub overdue : (s : Stream) (u j : ℕ) → LawfulStream s → Divides s.period u → born s j < u → due s j ≤ u
unfolding born
overdue s u j l d h = omega (arith, next_multiple s.period u (j - 1) d h, l.deadline_fits)

-- the frame that is released at an instant that the period divides is born then
pub born_now : (s : Stream) (u : ℕ) → Divides s.period u → born s (u / s.period + 1) ≡ u
unfolding born
born_now s u d =
    let n : ℕ = u / s.period in
    let back : n + 1 - 1 ≡ n = omega arith in
    ap (λ k. k * s.period) back ∙ mul_comm n s.period ∙ mul-div_cancel' s.period (dvd_of_mod-eq-zero s.period d)

pub born_divides : (s : Stream) (j : ℕ) → Divides s.period (born s j)
unfolding born
born_divides s j = mul-mod_left (j - 1) s.period

-- the number of the frame that is born at an instant
pub frame_born : (s : Stream) (u j : ℕ) → LawfulStream s → 1 ≤ j → born s j ≡ u → u / s.period + 1 ≡ j
unfolding born
frame_born s u j l some e =
    let positive : 0 < s.period = omega (arith, l.service_some, l.service_fits, l.deadline_fits) in
    let n : u / s.period ≡ j - 1 = ap (λ k. k / s.period) (sym e) ∙ mul-div_cancel (j - 1) positive in
    omega (arith, n)
