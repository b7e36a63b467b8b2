-- How a frame ended, and what is told of it. Assumes nothing.
use Rattle.std.specs.Prelude.{ℕ, ◌≤◌, Bool, true, false, cond, is_some, Some, None, Option}
use Rattle.std.specs.Option.{option_map}
use Rattle.firm.specs.declared.outcome.Outcome.{Outcome}
use Rattle.firm.specs.declared.outcome.Outcome.TheVariants.{Met, Missed}
use Rattle.model.specs.Tally.{Tally}
use Rattle.bus.specs.Machines.{failure_note}
use Rattle.bus.specs.declared.machine.ended.Ended.{Ended}

abbrev pub is_met : Outcome → Bool
is_met Met = true
is_met Missed = false

-- what is told of a frame that has ended, or of none
abbrev pub told_of : Option Ended → Tally
told_of None = record { met = 0; missed = 0; failures = 0; first = None }
told_of (Some e) = record {
  met = cond (is_met e.outcome) 1 0;
  missed = cond (is_met e.outcome) 0 1;
  failures = cond (is_some e.failure) 1 0;
  first = option_map failure_note e.failure;
}

-- no count is above n
abbrev pub AtMost : ℕ → Tally → Type 0
AtMost n t = (t.met ≤ n) × (t.missed ≤ n) × (t.failures ≤ n)
