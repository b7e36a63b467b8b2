-- What step 5 does, by what is in transit. Assumes nothing.
use Rattle.std.proofs.Common.{◌≡◌, Bool, true, false, cond, not, eqb, [], Some, None, Option, refl, ap, ◌∙◌}
use Rattle.std.specs.Option.{option_map}
use Rattle.std.proofs.lemmas.Bool.{cond-true, cond-false, eq-eqb, ne_eqb}
use Rattle.model.specs.Ready.{Ready}
use Rattle.model.specs.Machine.{Transit, State, with_outcome, in_slot, release, start, hit, mark, tick, leaving, leave, outcome, outcome_in, arrival, arrivals, begun}
use Rattle.laws.specs.Sound.{row_at}
use Rattle.laws.specs.Units.{after_noise}

-- the state after the frame t has left
abbrev pub gone : Transit → State → State
gone t s = record { now = s.now; rows = in_slot t.slot (with_outcome (not t.marked)) s.rows; transit = None }

module _ (s : State) where
  pub leave_none : s.transit ≡ None → (leave s ≡ s) × (arrivals s ≡ [])
  unfolding leave arrivals
  leave_none e = (ap (λ o. leaving o s) e, ap (λ o. arrival o s) e)

  pub leave_later : (t : Transit) → s.transit ≡ Some t → (t.end ≡ s.now → ⊥) → (leave s ≡ s) × (arrivals s ≡ [])
  unfolding leave arrivals
  leave_later t e later = (
    ap (λ o. leaving o s) e ∙ cond-false (eqb t.end s.now) (gone t s) s (ne_eqb t.end s.now later),
    ap (λ o. arrival o s) e
        ∙ cond-false (eqb t.end s.now) (outcome_in (row_at s.rows t.slot) (outcome s.now t.slot t.frame (not t.marked))) []
        (ne_eqb t.end s.now later),
  )

  pub leave_then : (t : Transit) → s.transit ≡ Some t → t.end ≡ s.now
      → (leave s ≡ gone t s) × (arrivals s ≡ outcome_in (row_at s.rows t.slot) (outcome s.now t.slot t.frame (not t.marked)))
  unfolding leave arrivals
  leave_then t e then = (
    ap (λ o. leaving o s) e ∙ cond-true (eqb t.end s.now) (gone t s) s (eq-eqb t.end s.now then),
    ap (λ o. arrival o s) e
        ∙ cond-true (eqb t.end s.now) (outcome_in (row_at s.rows t.slot) (outcome s.now t.slot t.frame (not t.marked))) []
        (eq-eqb t.end s.now then),
  )

-- noise marks what is in transit, and does not change its end
after_noise_is : (noisy : Bool) (o : Option Transit) → cond noisy (option_map hit o) o ≡ option_map (after_noise noisy) o
after_noise_is true None = refl
after_noise_is true (Some t) = refl
after_noise_is false None = refl
after_noise_is false (Some t) = refl

pub noise_end : (noisy : Bool) (t : Transit) → (after_noise noisy t).end ≡ t.end
noise_end true t = refl
noise_end false t = refl

pub begun_transit : (before : Ready → Ready → Bool) (noisy : Bool) (s : State) → (begun before noisy s).transit ≡ option_map (after_noise noisy) (start before (release s)).transit
unfolding tick mark
begun_transit before noisy s = after_noise_is noisy (start before (release s)).transit
