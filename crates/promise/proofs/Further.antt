-- The schedule from where it stands after some units: what it says of the schedule from its start. Assumes nothing.
use Rattle.std.proofs.Common.{◌≡◌, ℕ, ◌+◌, ◌-◌, Bool, false, sym, ap, ◌∙◌, subst, inl, inr, arith}
use Rattle.std.specs.List.{slice_get}
use Rattle.std.proofs.lemmas.Bool.{cases_lt}
use Rattle.model.specs.Ready.{Ready}
use Rattle.model.specs.Machine.{State, outcomes}
use Rattle.model.specs.Schedule.{after, given}
use Rattle.model.specs.Tally.{Failure}
use Rattle.model.specs.Forecast.{period_of, units_to, Failing, Fails}
use Rattle.rounds.proofs.Returns.{after_more}
use Rattle.promise.specs.Boundaries.{NoneFails, Unfailing, boundary}
use Rattle.promise.proofs.Boundaries.{units_next}
use Rattle.promise.proofs.Failures.{not_there}

module _ (before : Ready → Ready → Bool) (s : State) where
  pub given_more : (m n : ℕ) → given before s (m + n) ≡ given before (after before s m) n
  given_more m n = ap (outcomes before false) (after_more before s m n)

  -- one boundary after the other
  pub boundary_next : (i : ℕ) → boundary before s (i + 1) ≡ after before (boundary before s i) (period_of s)
  boundary_next i = ap (after before s) (units_next s i) ∙ after_more before s (units_to s i) (period_of s)

  pub unfailing_more : (m n : ℕ) → Unfailing before s m → Unfailing before (after before s m) n → Unfailing before s (m + n)
  unfailing_more m n first then k l = elim (cases_lt k m) [
    | inl early ↦ first k early
    | inr late ↦
        let whole : m + (k - m) ≡ k = omega arith in
        subst (λ i. NoneFails (given before s i)) whole (subst NoneFails (sym (given_more m (k - m))) (then (k - m) (omega arith)))
  ]

  pub unfailing_next : (i : ℕ) → Unfailing before s (units_to s i) → Unfailing before (boundary before s i) (period_of s) → Unfailing before s (units_to s (i + 1))
  unfailing_next i first then = subst (Unfailing before s) (sym (units_next s i)) (unfailing_more (units_to s i) (period_of s) first then)

  -- a failure from there is one from the start
  failing_back : (m : ℕ) (f : Failure) → Failing before (after before s m) f → Failing before s f
  failing_back m f g = record {
    units = m + g.units;
    place = g.place;
    outcome = g.outcome;
    given_there = ap (λ os. slice_get os g.place) (given_more m g.units) ∙ g.given_there;
    failed = g.failed;
    slot = g.slot;
    frame = g.frame;
    instant = g.instant;
  }

  -- and if none lies before there, the other way round
  failing_there : (m : ℕ) (f : Failure) → Unfailing before s m → Failing before s f → Failing before (after before s m) f
  failing_there m f fine g = elim (cases_lt g.units m) [
    | inl early ↦ absurd (not_there before s g.units (fine g.units early) g.place g.outcome g.given_there g.failed)
    | inr late ↦
        let n : ℕ = g.units - m in
        let whole : m + n ≡ g.units = omega arith in
        record {
          units = n;
          place = g.place;
          outcome = g.outcome;
          given_there = ap (λ os. slice_get os g.place) (sym (given_more m n) ∙ ap (given before s) whole) ∙ g.given_there;
          failed = g.failed;
          slot = g.slot;
          frame = g.frame;
          instant = g.instant;
        }
  ]

  pub fails_later : (m : ℕ) (f : Failure) → Unfailing before s m → Fails before (after before s m) f → Fails before s f
  fails_later m f fine there = record {
    is = failing_back m f there.is;
    first = λ g at. there.first g (failing_there m g fine at);
  }
