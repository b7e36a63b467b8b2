-- What a `Machine` and a `Tally` stand for, and what a call for a unit answers and leaves. Assumes nothing.
use Rattle.std.specs.Prelude.{Bool, cond, Ok, Err, Result, ◌==◌}
use Rattle.std.specs.Option.{option_map}
use Rattle.refusal.specs.declared.Refusal.{Refusal}
use Rattle.refusal.specs.declared.Refusal.TheVariants.{InstantLimit}
use Rattle.model.specs.Machine.{State, unit, outcomes}
use Rattle.model.specs.Ready.{Ready}
use Rattle.model.specs.Tally as model
use Rattle.model.specs.Tally.{tally}
use Rattle.bus.specs.States.{standing}
use Rattle.bus.specs.declared.failure.Failure.{Failure}
use Rattle.bus.specs.declared.machine.Machine.{Machine}
use Rattle.bus.specs.declared.machine.tally.Tally.{Tally}

abbrev pub state_of : Machine → State
state_of m = standing m.state

abbrev pub failure_note : Failure → model.Failure
failure_note f = record { slot = f.slot; frame = f.frame; instant = f.instant }

abbrev pub tally_of : Tally → model.Tally
tally_of t = record { met = t.met; missed = t.missed; failures = t.failures; first = option_map failure_note t.first }

-- the last instant of the machine, twice the last instant of a bench, so that a forecast has room: from there no unit passes
abbrev pub at_limit : State → Bool
at_limit s = s.now == 2199023255552

-- what is told of a unit, or the refusal at the last instant
abbrev pub told : (Ready → Ready → Bool) → Bool → State → Result model.Tally Refusal
told before noisy s = cond (at_limit s) (Err InstantLimit) (Ok (tally (outcomes before noisy s)))

-- the state after it; at the last instant it stays
abbrev pub moved : (Ready → Ready → Bool) → Bool → State → State
moved before noisy s = cond (at_limit s) s (unit before noisy s)
