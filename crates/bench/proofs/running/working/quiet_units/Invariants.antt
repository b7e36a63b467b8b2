use Rattle.bus.specs.Machines.{state_of, tally_of}
use Rattle.bench.proofs.Advancing.{Led}
use Rattle.bench.proofs.running.working.quiet_units.Given as goal

abbrev pub invariant-loop : goal.invariant-loop
invariant-loop g l = Led (g.R.Rule.before l.rule) (state_of l.initial.bus) l.counter (state_of l.bus) (tally_of l.told)
