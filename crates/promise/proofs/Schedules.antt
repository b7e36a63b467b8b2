-- The quiet schedule from a sound state: it stays sound, counts its units and keeps the table. Assumes nothing.
use Rattle.std.proofs.Common.{◌≡◌, ℕ, zero, suc, ◌+◌, Bool, false, sym, refl, ◌∙◌, arith}
use Rattle.model.specs.Ready.{Ready}
use Rattle.model.specs.Machine.{State}
use Rattle.model.specs.Schedule.{after}
use Rattle.model.specs.Forecast.{table_of}
use Rattle.laws.specs.Sound.{Sound, stream_at}
use Rattle.laws.proofs.Running.{same_table}
use Rattle.laws.proofs.Streams.{stream_unit}
use Rattle.laws.proofs.Keeping.{unit_sound, unit_now}

module _ (before : Ready → Ready → Bool) (s : State) where
  pub after_now : (n : ℕ) → (after before s n).now ≡ s.now + n
  unfolding after
  after_now zero = omega arith
  after_now (suc n) = omega (arith, unit_now before false (after before s n), after_now n)

  pub after_sound : Sound s → (n : ℕ) → Sound (after before s n)
  unfolding after
  after_sound h zero = h
  after_sound h (suc n) = unit_sound before false (after before s n) (after_sound h n)

  pub after_streams : (n i : ℕ) → stream_at (after before s n) i ≡ stream_at s i
  unfolding after
  after_streams zero i = refl
  after_streams (suc n) i = stream_unit before false (after before s n) i ∙ after_streams n i

  pub after_table : Sound s → (n : ℕ) → table_of (after before s n) ≡ table_of s
  after_table h n = same_table (after before s n) s ((after_sound h n).eight ∙ sym h.eight) (after_streams n)
