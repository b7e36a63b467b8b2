use Rattle.bus.specs.Machines.{state_of}
use Rattle.bench.proofs.Searching.{Turn}
use Rattle.bench.proofs.running.Running.round.Given as goal

abbrev pub invariant-loop-to : goal.invariant-loop-to
invariant-loop-to g l = Turn (g.R.Rule.before l.self.rule) (state_of l.fn.first) l.from l.to (state_of l.kept) (state_of l.walker)
