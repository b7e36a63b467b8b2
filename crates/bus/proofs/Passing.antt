-- A unit, put together from its steps. Assumes nothing.
use Rattle.std.proofs.Common.{◌≡◌, ℕ, Bool, get_or, Some, None, Option, sym, refl, ap, ◌∙◌, subst, arith}
use mathlib.Core.Logic.{∥∥₁_elim}
use native.Mathlib.Bridge.{le_prop}
use Rattle.laws.specs.Sound.{Sound}
use Rattle.laws.proofs.Keeping.{release_sound, start_now}
use Rattle.model.specs.Machine.{Row, State, release, start, mark, tick, leave, drop, begun, unit, arrivals, drops, outcomes}
use Rattle.model.specs.Ready.{Ready}
use Rattle.model.specs.Tally.{Tally, tally}
use Rattle.bus.specs.Tallies.{together}
use Rattle.bus.specs.Waiting.{SendableIn, AllSendable}
use Rattle.bus.proofs.Telling.{tally_together}

-- after its releases, every waiting frame of a sound state can be sent
module _ (s : State) (sound : ∥ Sound s ∥₁) where
  sendable_in : (i : ℕ) (o : Option Row) → get_or (release s).rows i None ≡ o → SendableIn s.now o
  sendable_in i None e = tt
  sendable_in i (Some r) e = λ j waits. (
    ∥∥₁_elim sound le_prop (λ h. omega (arith, (((release_sound s h).rows i r e).released j waits).born_before)),
    ∥∥₁_elim sound le_prop (λ h. ((release_sound s h).rows i r e).in_time j waits),
  )

  pub sendable : (t : State) → t ≡ release s → AllSendable t.now t.rows
  unfolding release
  sendable t e = subst (λ (x : State). AllSendable x.now x.rows) (sym e) (λ i. sendable_in i (get_or (release s).rows i None) refl)

-- the states after each of the six steps
pub record Passed (before : Ready → Ready → Bool) (noisy : Bool) (s s1 s2 s3 s4 s5 s6 : State) : Type 0 where
  pub released : s1 ≡ release s
  pub started : s2 ≡ start before s1
  pub marked : s3 ≡ mark noisy s2
  pub ticked : s4 ≡ tick s3
  pub left : s5 ≡ leave s4
  pub dropped : s6 ≡ drop s5

module _ (before : Ready → Ready → Bool) (noisy : Bool) (s s1 s2 s3 : State) where
  -- up to the tick the instant stays
  pub marked_now : s1 ≡ release s → s2 ≡ start before s1 → s3 ≡ mark noisy s2 → s3.now ≡ s.now
  unfolding mark
  marked_now e1 e2 e3 =
      ap (λ (x : State). x.now) e3 ∙ ap (λ (x : State). x.now) (e2 ∙ ap (start before) e1) ∙ start_now before noisy s

module _ (before : Ready → Ready → Bool) (noisy : Bool) (s s1 s2 s3 s4 s5 s6 : State) (p : Passed before noisy s s1 s2 s3 s4 s5 s6) where
  before_leaving : s4 ≡ begun before noisy s
  before_leaving = p.ticked ∙ ap tick (p.marked ∙ ap (mark noisy) (p.started ∙ ap (start before) p.released))

  after_leaving : s5 ≡ leave (begun before noisy s)
  after_leaving = p.left ∙ ap leave before_leaving

  pub passed_unit : s6 ≡ unit before noisy s
  unfolding unit
  passed_unit = p.dropped ∙ ap drop after_leaving

  -- what is told of step 5 and of step 6 is what is told of the unit
  pub passed_tally :
      (t arrived : Tally) → arrived ≡ tally (arrivals s4) → t ≡ together arrived (tally (drops s5.now 0 s5.rows))
      → t ≡ tally (outcomes before noisy s)
  unfolding outcomes
  passed_tally t arrived one all =
      all
      ∙ ap (λ a. together a (tally (drops s5.now 0 s5.rows))) (one ∙ ap (λ x. tally (arrivals x)) before_leaving)
      ∙ ap (λ (x : State). together (tally (arrivals (begun before noisy s))) (tally (drops x.now 0 x.rows))) after_leaving
      ∙ sym (tally_together (arrivals (begun before noisy s)) _)
