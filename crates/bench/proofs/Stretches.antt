-- The figures of a stretch of the quiet schedule are those of the schedule from where the stretch begins. Assumes nothing.
use Rattle.std.proofs.Common.{◌≡◌, ℕ, zero, suc, ◌+◌, ◌-◌, ◌*◌, ◌/◌, ◌≤◌, Bool, false, cond, not, replicate, sym, refl, ap, ◌∙◌, add-mul, zero-add, arith, lit≤}
use Rattle.std.proofs.lemmas.Bool.{cond_both}
use Rattle.model.specs.Ready.{Ready}
use Rattle.model.specs.Machine.{State}
use Rattle.model.specs.Schedule.{ran, after}
use Rattle.model.specs.Tally.{how_many}
use Rattle.model.specs.Forecast.{period_of, units_to}
use Rattle.model.specs.Figures.{busy, busy_units, figures_over, figures}
use Rattle.rounds.proofs.Returns.{after_more}

module _ (before : Ready → Ready → Bool) (s : State) where
  -- no more units are busy than there are
  pub busy_units_few : (k n : ℕ) → busy_units before s k n ≤ n
  unfolding busy_units
  busy_units_few k zero = omega arith
  busy_units_few k (suc n) = omega (arith, busy_units_few k n, cond_both (busy before (after before s (k + n))) 1 0 (λ m. m ≤ 1) (λ e. lit≤ tt) (λ e. lit≤ tt))

  pub busy_units_from : (k n : ℕ) → busy_units before s k n ≡ busy_units before (after before s k) 0 n
  unfolding busy_units
  busy_units_from k zero = refl
  busy_units_from k (suc n) =
      let x : State = after before s k in
      let same : after before s (k + n) ≡ after before x (0 + n) = after_more before s k n ∙ ap (after before x) (sym (zero-add n)) in
      omega (arith, busy_units_from k n, ap {B = ℕ} (λ y. cond (busy before y) 1 0) same)

  pub figures_from : (k n : ℕ) → figures_over before s k n ≡ figures_over before (after before s k) 0 n
  unfolding figures_over after
  figures_from k n = let e = busy_units_from k n in cc

  -- the figures of n units from here, by their counts
  pub figures_by :
      (n b m l : ℕ) → b ≡ busy_units before s 0 n → m ≡ how_many (λ o. o.met) (ran before s (replicate n false))
      → l ≡ how_many (λ o. not o.met) (ran before s (replicate n false))
      → record { length = n; busy = b; met = m; missed = l; load = 1000 * b / n } ≡ figures_over before s 0 n
  unfolding figures_over after
  figures_by n b m l busy-is met-is missed-is = cc

  -- between two boundaries lie as many hyper-periods as their numbers are apart
  pub units_between : (i j : ℕ) → i ≤ j → units_to s j - units_to s i ≡ (j - i) * period_of s
  unfolding units_to
  units_between i j le =
      let whole : i + (j - i) ≡ j = omega arith in
      omega (arith, ap (λ n. n * period_of s) whole, add-mul i (j - i) (period_of s))

  -- the figures from boundary i to boundary j, by the state at boundary i and the units from there
  pub figures_between :
      (i j : ℕ) (x : State) (n : ℕ) → i ≤ j → x ≡ after before s (units_to s i) → n ≡ (j - i) * period_of s
      → figures_over before x 0 n ≡ figures before s i j
  figures_between i j x n le at units =
      ap (λ y. figures_over before y 0 n) at ∙ sym (figures_from (units_to s i) n)
      ∙ ap (figures_over before s (units_to s i)) (units ∙ sym (units_between i j le))
