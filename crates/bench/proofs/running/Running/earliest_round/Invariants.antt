use Rattle.bus.specs.Machines.{state_of}
use Rattle.promise.proofs.Search.{Closing}
use Rattle.bench.proofs.running.Running.earliest_round.Given as goal

abbrev pub invariant-loop-from : goal.invariant-loop-from
invariant-loop-from g l =
    Closing (g.R.Rule.before l.self.rule) (state_of l.initial.near) l.known.from l.length l.from (state_of l.near) (state_of l.far)
