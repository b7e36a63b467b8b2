-- The figures of a forecast that holds, measured from its first boundary of the two. Assumes nothing.
use Rattle.std.proofs.Common.{◌≡◌, ℕ, ◌+◌, ◌-◌, ◌*◌, ◌%◌, ◌<◌, ◌≤◌, Bool, Ok, Err, Result, ap, ◌∙◌, le_refl, add-mul, mul-le-mul, one-mul, arith, rules}
use Rattle.std.proofs.lemmas.Bool.{true≢false}
use Rattle.std.specs.Result.{IsOk}
use Rattle.model.specs.Bench.{last_instant}
use Rattle.model.specs.Forecast.{table_of, period_of, units_to, Holds}
use Rattle.model.specs.Forecast.Answer.{holds, fails}
use Rattle.model.specs.Machine.{State}
use Rattle.model.specs.Ready.{Ready}
use Rattle.model.specs.Tables.{Table, hyper_period, histories}
use Rattle.laws.specs.Sound.{Sound}
use Rattle.promise.proofs.Boundaries.{units_are, period_positive}
use Rattle.promise.proofs.Single.{one_answer}
use Rattle.bus.specs.Machines.{failure_note}
use Rattle.bus.specs.declared.failure.Failure as note
use Rattle.bench.specs.Searches.{Walks}
use Rattle.bench.proofs.Foretelling.{period_is, count_is, less, units_are_first}

module _ (before : Ready → Ready → Bool) (s : State) (h : Sound s) where
  -- where the forecast holds, a walk comes to its end
  pub walk_is_ok : (i j : ℕ) → Holds before s i j → (n : ℕ) (x : State) (r : Result (Unit {0}) note.Failure) → Walks before s n x r → IsOk r
  walk_is_ok i j holding n x (Ok u) w = search rules
  walk_is_ok i j holding n x (Err f) w =
      let same : holds i j ≡ fails (failure_note f) = one_answer before s h (holds i j) (fails (failure_note f)) holding w in
      absurd (true≢false cc)

-- the way to the first of the two boundaries, n units to boundary 0 and then i hyper-periods of p units, and from it to the second
pub record Way (s : State) (i j p n : ℕ) : Type 0 where
  pub there : n + i * p ≡ units_to s i
  pub between : (j - i) * p ≡ (j - i) * period_of s
  pub some : 0 < (j - i) * p
  pub few : n + i * p + (j - i) * p ≤ 38654779392

module _ (s : State) (h : Sound s) (t : Table) (same : ∥ table_of s ≡ t ∥₁) (short : hyper_period t ≤ 36864) (few : histories t ≤ 1048576) (early : s.now ≤ last_instant) where
  pub way : (before : Ready → Ready → Bool) (i j : ℕ) → Holds before s i j → (p n : ℕ) → p ≡ hyper_period t → n ≡ (p - s.now % p) % p → Way s i j p n
  way before i j holding p n is e =
      let same-period : p ≡ period_of s = is ∙ period_is s h t same in
      let first : n ≡ units_to s 0 = units_are_first s h t same n (e ∙ ap (λ q. (q - s.now % q) % q) is) in
      let apart : 1 ≤ j - i = omega (arith, holding.apart) in
      let low : p ≤ 36864 = omega arith in
      let most : j ≤ 1048577 = omega (arith, holding.bound, count_is s h t same) in
      let rounds : j * p ≤ 1048577 * 36864 = mul-le-mul most low in
      let whole : i + (j - i) ≡ j = omega arith in
      record {
        there = omega (arith, first, units_are s i, ap (λ q. i * q) same-period);
        between = ap (λ q. (j - i) * q) same-period;
        some = omega (arith, mul-le-mul apart (le_refl p), one-mul p, same-period, period_positive s h);
        few = omega (arith, less s h t same short few early n first, add-mul i (j - i) p, ap (λ k. k * p) whole);
      }
