-- From where a running bench stands to the first boundary of its schedule, and what is told there told here. Assumes nothing.
use Rattle.std.proofs.Common.{◌≡◌, ℕ, ◌+◌, ◌-◌, ◌%◌, ◌<◌, ◌≤◌, Bool, Ok, Err, Result, sym, refl, ap, ◌∙◌, mod-lt, arith}
use mathlib.Core.Logic.{∥∥₁_elim}
use native.Mathlib.Nat.{ℕ_set}
use Rattle.model.specs.Bench.{last_instant}
use Rattle.model.specs.Forecast.{table_of, period_of, units_to, Fails}
use Rattle.model.specs.Forecast.Answer.{holds, fails}
use Rattle.model.specs.Machine.{State}
use Rattle.model.specs.Ready.{Ready}
use Rattle.model.specs.Tally.{Failure}
use Rattle.model.specs.Tables.{Table, hyper_period, histories}
use Rattle.laws.specs.Sound.{Sound}
use Rattle.promise.specs.Answers.{Walked}
use Rattle.promise.proofs.Boundaries.{period_positive, units_first}
use Rattle.promise.proofs.Onward.{onward_on, onward_period, onward_table, onward_tells}
use Rattle.promise.proofs.Walks.{walk_now}
use Rattle.bus.specs.Machines.{failure_note}
use Rattle.bus.specs.declared.failure.Failure as note
use Rattle.bench.specs.Searches.{Searchable, EarliestFound, machine_limit}
use Rattle.bench.specs.declared.search.round.Round.{Round}

module _ (s : State) (h : Sound s) (t : Table) (same : ∥ table_of s ≡ t ∥₁) where
  pub period_is : hyper_period t ≡ period_of s
  period_is = ∥∥₁_elim same (ℕ_set (hyper_period t) (period_of s)) (λ e. ap hyper_period (sym e))

  pub count_is : histories t ≡ histories (table_of s)
  count_is = ∥∥₁_elim same (ℕ_set (histories t) (histories (table_of s))) (λ e. ap histories (sym e))

  pub some_period : 0 < hyper_period t
  some_period = omega (arith, period_is, period_positive s h)

  -- the units to the first boundary
  pub units_are_first : (n : ℕ) → n ≡ (hyper_period t - s.now % hyper_period t) % hyper_period t → n ≡ units_to s 0
  units_are_first n e = e ∙ ap (λ p. (p - s.now % p) % p) period_is ∙ sym (units_first s)

  module _ (short : hyper_period t ≤ 36864) (few : histories t ≤ 1048576) (early : s.now ≤ last_instant) where
    pub less : (n : ℕ) → n ≡ units_to s 0 → n < 36864
    less n e = omega (arith, e, units_first s, mod-lt (period_of s - s.now % period_of s) (period_positive s h), period_is)

    pub first_soon : (n : ℕ) → n ≡ units_to s 0 → s.now + n ≤ machine_limit
    first_soon n e = omega (arith, less n e)

    pub first_searchable : (before : Ready → Ready → Bool) (x : State) → Walked before s (units_to s 0) x → Searchable x (hyper_period t)
    first_searchable before x w = record {
      on = onward_on before s h x w.stands;
      is = period_is ∙ sym (onward_period before s h x w.stands);
      short = omega (arith, period_is, onward_period before s h x w.stands);
      few = omega (arith, count_is, ap histories (onward_table before s h x w.stands));
      early = omega (arith, walk_now before s (units_to s 0) x w, less (units_to s 0) refl);
    }

-- what is found from the first boundary is found from here
module _ (before : Ready → Ready → Bool) (s : State) (h : Sound s) (x : State) (w : Walked before s (units_to s 0) x) where
  pub fails_onward : (f : Failure) → Fails before x f → Fails before s f
  fails_onward f there = onward_tells before s h x w.stands w.fine (fails f) there

  pub earliest_onward : (found : Result Round note.Failure) → EarliestFound before x found → EarliestFound before s found
  earliest_onward (Ok r) there = onward_tells before s h x w.stands w.fine (holds r.from r.to) there
  earliest_onward (Err f) there = fails_onward (failure_note f) there
