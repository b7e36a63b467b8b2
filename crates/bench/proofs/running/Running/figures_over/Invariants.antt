use Rattle.std.proofs.Common.{◌≡◌}
use Rattle.bus.specs.Machines.{state_of, tally_of}
use Rattle.model.specs.Figures.{busy_units}
use Rattle.bench.proofs.Advancing.{Led}
use Rattle.bench.proofs.running.Running.figures_over.Given as goal

abbrev pub invariant-loop : goal.invariant-loop
invariant-loop g l =
    let before = g.R.Rule.before l.self.rule in
    let s = state_of l.initial.bus in
    Led before s l.counter (state_of l.bus) (tally_of l.told) × (l.busy ≡ busy_units before s 0 l.counter)
