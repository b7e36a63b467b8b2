use Rattle.bus.specs.Machines.{state_of}
use Rattle.promise.specs.Answers.{Walked}
use Rattle.bench.proofs.running.Running.walk.Given as goal

abbrev pub invariant-loop : goal.invariant-loop
invariant-loop g l = Walked (g.R.Rule.before l.self.rule) (state_of l.initial.bus) l.counter (state_of l.bus)
