-- A state that is known to be sound in the way that the type of a machine knows it is sound: nothing of it is lost. Assumes nothing.
use Rattle.std.proofs.Common.{◌≡◌, ℕ, ◌≤◌, length, Some, None, Option, refl, arith}
use mathlib.Core.HLevel.{⊥_prop}
use mathlib.Core.Logic.{∥∥₁_elim}
use native.Mathlib.Nat.{ℕ_set}
use native.Mathlib.Bridge.{le_prop}
use Rattle.model.specs.Machine.{Row, Transit, State}
use Rattle.laws.specs.Sound.{SoundRow, Sound, row_at}

module _ (s : State) (held : ∥ Sound s ∥₁) where
  -- an order between two numbers that follows from soundness
  known : (m n : ℕ) → (Sound s → m ≤ n) → m ≤ n
  known m n f = ∥∥₁_elim held le_prop f

  row : (i : ℕ) (r : Row) → row_at s.rows i ≡ Some r → SoundRow s.now s.now r
  row i r e = record {
    lawful = record {
      service_some = known _ _ (λ h. (h.rows i r e).lawful.service_some);
      service_fits = known _ _ (λ h. (h.rows i r e).lawful.service_fits);
      deadline_fits = known _ _ (λ h. (h.rows i r e).lawful.deadline_fits);
      period_short = known _ _ (λ h. (h.rows i r e).lawful.period_short);
      required_some = known _ _ (λ h. (h.rows i r e).lawful.required_some);
      required_most = known _ _ (λ h. (h.rows i r e).lawful.required_most);
      window_short = known _ _ (λ h. (h.rows i r e).lawful.window_short);
      bits_fit = known _ _ (λ h. (h.rows i r e).lawful.bits_fit);
    };
    bits = known _ _ (λ h. (h.rows i r e).bits);
    released = λ j w. record {
      numbered = known _ _ (λ h. ((h.rows i r e).released j w).numbered);
      born_before = known _ _ (λ h. ((h.rows i r e).released j w).born_before);
    };
    in_time = λ j w. known _ _ (λ h. (h.rows i r e).in_time j w);
  }

  occupied : (t : Transit) → s.transit ≡ Some t → (o : Option Row) → row_at s.rows t.slot ≡ o → (r : Row) × (row_at s.rows t.slot ≡ Some r)
  occupied t e (Some r) at = (r, at)
  occupied t e None at =
      absurd (∥∥₁_elim held ⊥_prop (λ h. let there = (h.occupied t e).1 in let z : ◌≡◌ {A = ℕ} 0 1 = cc in omega arith))

  alone : (t : Transit) (r : Row) → s.transit ≡ Some t → row_at s.rows t.slot ≡ Some r → (w : Option ℕ) → r.waits ≡ w → r.waits ≡ None
  alone t r e at None w = w
  alone t r e at (Some j) w =
      absurd (∥∥₁_elim held ⊥_prop (λ h. let none = (h.transit t r e at).alone in let z : ◌≡◌ {A = ℕ} 0 1 = cc in omega arith))

  pub held_sound : Sound s
  held_sound = record {
    eight = ∥∥₁_elim held (ℕ_set (length s.rows) 8) (λ h. h.eight);
    rows = row;
    occupied = λ t e. occupied t e (row_at s.rows t.slot) refl;
    transit = λ t r e at. record {
      released = record {
        numbered = known _ _ (λ h. (h.transit t r e at).released.numbered);
        born_before = known _ _ (λ h. (h.transit t r e at).released.born_before);
      };
      leaves_after = known _ _ (λ h. (h.transit t r e at).leaves_after);
      leaves_by = known _ _ (λ h. (h.transit t r e at).leaves_by);
      alone = alone t r e at r.waits refl;
    };
  }
