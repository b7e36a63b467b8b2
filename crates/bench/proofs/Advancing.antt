-- Quiet units, one after the other: where they lead, what they tell, and that the counts stay small. Assumes nothing.
use Rattle.std.proofs.Common.{◌≡◌, ℕ, suc, ◌+◌, ◌*◌, ◌/◌, ◌<◌, ◌≤◌, Bool, true, false, ltb, cond, List, [], ◌∷◌, length, replicate, Ok, refl, sym, ap, ◌∙◌, subst, append-nil, zero-add, add-one, arith}
use Rattle.std.proofs.lemmas.Bool.Decides.{nat_tests}
use Rattle.refusal.specs.Tests.{on_ok, kept}
use Rattle.model.specs.Bench.{last_instant, disturbed, state_after, tally_after}
use Rattle.model.specs.Machine.{State, Outcome, unit, outcomes}
use Rattle.model.specs.Ready.{Ready}
use Rattle.model.specs.Figures.{busy, busy_units, figures_over}
use Rattle.model.specs.Schedule.{run, ran, after}
use Rattle.model.specs.Tally.{Tally, tally}
use Rattle.model.proofs.Runs.{run_more, ran_more}
use Rattle.model.proofs.Tallies.{how_many_not}
use Rattle.promise.proofs.Runs.{run_quiet}
use Rattle.bus.specs.Machines as one
use Rattle.bus.specs.Machines.{at_limit}
use Rattle.bus.specs.Tallies.{together}
use Rattle.bus.proofs.Telling.{tally_together}
use Rattle.bench.proofs.Stretches.{figures_by}
use Rattle.bench.proofs.Quiet.{quiet_now, quiet_few}

module _ (before : Ready → Ready → Bool) (s : State) where
  -- n quiet units from s lead to x and tell t
  pub record Led (n : ℕ) (x : State) (t : Tally) : Type 0 where
    pub state : x ≡ run before s (replicate n false)
    pub told : t ≡ tally (ran before s (replicate n false))

  pub led_none : Led 0 s (tally [])
  unfolding run ran
  led_none = record { state = refl; told = refl }

  pub led_more : (n : ℕ) (x : State) (t : Tally) → Led n x t → Led (n + 1) (unit before false x) (together t (tally (outcomes before false x)))
  led_more n x t h =
      let state : run before s (replicate (suc n) false) ≡ unit before false (run before s (replicate n false)) = run_more before false s n in
      let told : tally (ran before s (replicate (suc n) false)) ≡ together (tally (ran before s (replicate n false))) (tally (outcomes before false (run before s (replicate n false)))) =
      ap tally (ran_more before false s n) ∙ tally_together _ _ in
      rw add-one (record { state = cc; told = cc })

  -- one more unit, by what is told of it
  pub led_next :
      (n : ℕ) (x y : State) (t u : Tally) → Led n x t → u ≡ tally (outcomes before false x) → y ≡ unit before false x
      → Led (n + 1) y (together t u)
  led_next n x y t u h told state =
      subst (λ v. Led (n + 1) y (together t v)) (sym told) (subst (λ z. Led (n + 1) z (together t (tally (outcomes before false x)))) (sym state) (led_more n x t h))

  -- a unit gives at most nine outcomes
  pub led_few : (n : ℕ) (x : State) (t : Tally) → length s.rows ≡ 8 → Led n x t → (t.met ≤ 9 * n) × (t.missed ≤ 9 * n) × (t.failures ≤ 9 * n)
  unfolding tally
  led_few n x t eight h =
      let os : List Outcome = ran before s (replicate n false) in
      let few : length os ≤ 9 * n = quiet_few before s n eight in (
        omega (arith, few, ap (λ y. y.met) h.told, how_many_not (λ o. o.met) os),
        omega (arith, few, ap (λ y. y.missed) h.told, how_many_not (λ o. o.met) os),
        omega (arith, few, ap (λ y. y.failures) h.told, how_many_not (λ o. o.failure) os),
      )

  -- a unit that comes before the last of some comes before the last instant
  pub led_early : (n units limit : ℕ) (x : State) (t : Tally) → Led n x t → n < units → s.now + units ≤ limit → x.now < limit
  led_early n units limit x t h more early = omega (arith, quiet_now before s n x h.state)

  -- how many of the units are busy
  pub busy_more : (n b : ℕ) (x : State) (t : Tally) → Led n x t → b ≡ busy_units before s 0 n → b + cond (busy before x) 1 0 ≡ busy_units before s 0 (n + 1)
  unfolding busy_units
  busy_more n b x t h e =
      let here : x ≡ after before s (0 + n) = h.state ∙ run_quiet before s n ∙ ap (after before s) (sym (zero-add n)) in
      rw add-one (omega (arith, e, ap {B = ℕ} (λ y. cond (busy before y) 1 0) here))

  -- the figures of the units, by what they tell and how many of them are busy
  pub figures_led :
      (n b : ℕ) (x : State) (t : Tally) → Led n x t → b ≡ busy_units before s 0 n
      → record { length = n; busy = b; met = t.met; missed = t.missed; load = 1000 * b / n } ≡ figures_over before s 0 n
  unfolding tally
  figures_led n b x t h e = figures_by before s n b t.met t.missed e (ap (λ (y : Tally). y.met) h.told) (ap (λ (y : Tally). y.missed) h.told)

-- one noisy unit before the last instant: what it answers and where it leads
module _ (before : Ready → Ready → Bool) (s : State) (early : s.now < last_instant) where
  once : disturbed before s ≡ Ok (record { state = unit before true s; told = tally (outcomes before true s) })
  unfolding run ran
  once =
      let test : ltb last_instant (s.now + 1) ≡ false = grind (arith, nat_tests) in
      let all : ran before s (true ∷ []) ≡ outcomes before true s = append-nil (outcomes before true s) in
      cc

  in_range : at_limit s ≡ false
  in_range = grind (arith, nat_tests)

  pub once_answered : one.told before true s ≡ on_ok tally_after (disturbed before s)
  once_answered = let e = once in let f = in_range in grind (arith, nat_tests)

  pub once_led : one.moved before true s ≡ kept s (on_ok state_after (disturbed before s))
  once_led = let e = once in let f = in_range in grind (arith, nat_tests)

  pub once_run : one.moved before true s ≡ run before s (replicate 1 true)
  unfolding run
  once_run = let f = in_range in grind (arith, nat_tests)
