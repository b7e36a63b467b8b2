-- The worked examples, each computed. Assumes nothing.
use Rattle.std.proofs.Common.{◌≡◌, ℕ, zero, suc, ◌+◌, ◌^◌, ◌<◌, ◌≤◌, List, ◌∷◌, get_or, replicate, Some, None, Option, unwrap_or, sym, refl, ap, ◌∙◌, arith}
use lib.Count.{ones, ones_in}
use Rattle.std.specs.List.{AllByRecursion}
use Rattle.binomial.specs.Choose.{at_least, choices, choose}
use Rattle.firm.specs.Searches.{first_from}
use Rattle.firm.specs.Histories.{distance, restoring, repeated, entered, passes}
use Rattle.model.specs.Tables.{empty, lcm, hyper_period, histories}
use Rattle.model.specs.Machine.{State, born, release, candidates, best, start, mark, tick, leave, arrivals, drop, drops, unit, outcomes}
use Rattle.model.specs.Schedule.{started, ran, after}
use Rattle.model.specs.Tally.{first_failure}
use Rattle.model.specs.Forecast.{units_to, at_boundary, Holds, Fails}
use Rattle.model.specs.Figures.{figures_over, busy_units}
use Rattle.laws.specs.Sound.{LawfulStream, Sound}
use Rattle.promise.proofs.Runs.{quiet}
use Rattle.bus.specs.Rules.{del}
use Rattle.cases.specs.Cases.{Right, cases, periodic, two_streams}
use Rattle.cases.proofs.Forecasts.{started_sound, fails_in, holds_next}

-- ---- the two streams

lawful : (t c m k h : ℕ) → 1 ≤ c → c ≤ t → t ≤ 4096 → 1 ≤ m → m ≤ k → k ≤ 16 → h < 2 ^ k → LawfulStream (periodic t c m k h)
lawful t c m k h some fits short required most window bits = record {
  service_some = some;
  service_fits = fits;
  deadline_fits = omega arith;
  period_short = short;
  required_some = required;
  required_most = most;
  window_short = window;
  bits_fit = bits;
}

two_sound : (g h : ℕ) → g < 2 ^ 4 → h < 2 ^ 4 → Sound (started (two_streams g h))
two_sound g h first second =
    started_sound (two_streams g h) refl (
      lawful 4 1 2 4 g (omega arith) (omega arith) (omega arith) (omega arith) (omega arith) (omega arith) first,
      (lawful 10 8 3 4 h (omega arith) (omega arith) (omega arith) (omega arith) (omega arith) (omega arith) second, tt),
    )

pub all_met : Fails del (started (two_streams 0b1111 0b1111)) (record { slot = 0; frame = 4; instant = 16 })
unfolding born release candidates best start mark tick leave arrivals drop drops unit outcomes started ran first_failure distance first_from repeated entered passes ones ones_in
all_met = fails_in del (started (two_streams 0b1111 0b1111)) 20 _ refl

pub round_at_once : Holds del (started (two_streams 0b0101 0b1111)) 0 1
unfolding born release candidates best start mark tick leave arrivals drop drops unit outcomes started ran after first_failure distance first_from repeated entered passes ones ones_in units_to at_boundary hyper_period lcm
round_at_once =
    holds_next del (started (two_streams 0b0101 0b1111)) (two_sound 0b0101 0b1111 (omega arith) (omega arith)) 0 20 refl refl refl
    (λ k l e. omega arith)

-- the first of the boundaries is not like the next
no_earlier : (P : ℕ → Type 0) → (P 0 → ⊥) → (k : ℕ) → k < 1 → P k → ⊥
no_earlier P none zero l h = none h
no_earlier P none (suc k) l h = omega arith

later : State
later = started (two_streams 0b0010 0b1011)

later_none : first_failure (ran del later (quiet 40)) ≡ None
unfolding later born release candidates best start mark tick leave arrivals drop drops unit outcomes started ran first_failure distance first_from repeated entered passes ones ones_in
later_none = refl

later_units : units_to later 2 ≡ 40
unfolding later started units_to hyper_period lcm first_from
later_units = refl

-- the histories of the two streams
both : ℕ → ℕ → List (Option ℕ)
both g h = Some g ∷ Some h ∷ replicate 6 None

later_first : at_boundary del later 0 ≡ both 0b0010 0b1011
unfolding later both started units_to at_boundary after hyper_period lcm first_from
later_first = refl

later_second : at_boundary del later 1 ≡ both 0b0101 0b1111
unfolding later both born release candidates best start mark tick leave arrivals drop drops unit outcomes started after distance first_from repeated entered passes ones ones_in units_to at_boundary hyper_period lcm
later_second = refl

later_third : at_boundary del later 2 ≡ both 0b0101 0b1111
unfolding later both born release candidates best start mark tick leave arrivals drop drops unit outcomes started after distance first_from repeated entered passes ones ones_in units_to at_boundary hyper_period lcm
later_third = refl

later_differs : at_boundary del later 0 ≡ at_boundary del later 1 → ⊥
unfolding both
later_differs e = omega (arith, ap (λ l. unwrap_or (get_or l 0 None) 0) (sym later_first ∙ e ∙ later_second))

pub round_later : Holds del (started (two_streams 0b0010 0b1011)) 1 2
unfolding later
round_later =
    holds_next del later (two_sound 0b0010 0b1011 (omega arith) (omega arith)) 1 40 later_units later_none (later_second ∙ sym later_third)
    (no_earlier (λ k. at_boundary del later k ≡ at_boundary del later (k + 1)) later_differs)

-- ---- the empty table

pub nothing_fails : Holds del (started empty) 0 1
unfolding born release candidates best start mark tick leave arrivals drop drops unit outcomes started ran after first_failure units_to at_boundary hyper_period
nothing_fails = holds_next del (started empty) (started_sound empty refl tt) 0 1 refl refl refl (λ k l e. omega arith)

-- ---- all

pub all_right : AllByRecursion Right cases
unfolding distance restoring first_from repeated entered passes ones ones_in at_least choices choose lcm hyper_period histories figures_over busy_units release start candidates started units_to after
all_right =
    (refl, (refl, (refl, (refl, (refl, (refl, (refl, (refl, (refl, (refl, ((refl, refl), (all_met, (round_at_once, (round_later, (nothing_fails, (refl, tt))))))))))))))))
