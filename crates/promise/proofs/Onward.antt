-- What is told of the schedule from its first boundary is told of the schedule, if nothing fails before that boundary. Assumes nothing.
use Rattle.std.proofs.Common.{◌≡◌, ℕ, ◌+◌, ◌-◌, ◌*◌, ◌%◌, Bool, sym, ap, ◌∙◌, subst, inl, inr, arith}
use Rattle.std.proofs.lemmas.Bool.{cases_lt}
use Rattle.model.specs.Tables.{Divides, histories, hyper_period}
use Rattle.model.specs.Ready.{Ready}
use Rattle.model.specs.Machine.{State}
use Rattle.model.specs.Schedule.{after, given}
use Rattle.model.specs.Forecast.{table_of, histories_of, period_of, units_to, at_boundary, Holds, Answer, Tells}
use Rattle.model.specs.Forecast.Answer.{holds, fails}
use Rattle.laws.specs.Sound.{Sound}
use Rattle.rounds.proofs.Returns.{after_more}
use Rattle.promise.specs.Boundaries.{NoneFails, Unfailing, boundary}
use Rattle.promise.proofs.Boundaries.{boundaries, units_are}
use Rattle.promise.proofs.Schedules.{after_table, after_sound}
use Rattle.promise.proofs.Further.{given_more, fails_later}
use Rattle.promise.proofs.Search.{units_at}

module _ (before : Ready → Ready → Bool) (s : State) (h : Sound s) (x : State) (e : x ≡ boundary before s 0) where
  pub onward_sound : Sound x
  onward_sound = subst Sound (sym e) (after_sound before s h (units_to s 0))

  pub onward_table : table_of x ≡ table_of s
  onward_table = ap table_of e ∙ after_table before s h (units_to s 0)

  pub onward_period : period_of x ≡ period_of s
  onward_period = ap hyper_period onward_table

  pub onward_on : Divides (period_of x) x.now
  onward_on = ap (λ p. x.now % p) onward_period ∙ ap (λ (y : State). y.now % period_of s) e ∙ (boundaries before s h 0).multiple

  -- the boundaries are the same
  onward_after : (n : ℕ) → after before x n ≡ after before s (units_to s 0 + n)
  onward_after n = ap (λ y. after before y n) e ∙ sym (after_more before s (units_to s 0) n)

  pub onward_units : (i : ℕ) → units_to s 0 + units_to x i ≡ units_to s i
  onward_units i = omega (arith, units_at x onward_on i, units_are s i, ap (λ p. i * p) onward_period)

  pub onward_boundary : (i : ℕ) → at_boundary before x i ≡ at_boundary before s i
  unfolding at_boundary
  onward_boundary i = ap histories_of (onward_after (units_to x i) ∙ ap (after before s) (onward_units i))

  module _ (fine : Unfailing before s (units_to s 0)) where
    onward_holds : (i j : ℕ) → Holds before x i j → Holds before s i j
    onward_holds i j there = record {
      never = λ n. elim (cases_lt n (units_to s 0)) [
        | inl early ↦ fine n early
        | inr late ↦
            let m : ℕ = n - units_to s 0 in
            let whole : units_to s 0 + m ≡ n = omega arith in
            subst (λ k. NoneFails (given before s k)) whole
            (subst NoneFails (sym (given_more before s (units_to s 0) m)) (subst (λ y. NoneFails (given before y m)) e (there.never m)))
      ];
      apart = there.apart;
      agree = sym (onward_boundary i) ∙ there.agree ∙ onward_boundary j;
      only = λ a b less low same. there.only a b less low (onward_boundary a ∙ same ∙ sym (onward_boundary b));
      bound = omega (arith, there.bound, ap histories onward_table);
    }

    pub onward_tells : (a : Answer) → Tells before x a → Tells before s a
    onward_tells (holds i j) there = onward_holds i j there
    onward_tells (fails f) there = fails_later before s (units_to s 0) f fine (subst (λ y. Tells before y (fails f)) e there)
