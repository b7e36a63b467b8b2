-- At n the history has n more outcomes, and the search goes on from n.
use Rattle.std.proofs.Common.{◌≡◌, ◌-◌}
use Rattle.firm.specs.Histories.{turned, turns}
use Rattle.firm.specs.Searches.{first_from}
use Rattle.firm.specs.Stands.{firm_of}
use Rattle.firm.proofs.Turning.{after_run}
use Rattle.firm.proofs.history.History.repeats_until_turned.Given as goal

abbrev pub invariant-loop-n : goal.invariant-loop-n
invariant-loop-n l =
    (firm_of l.history ≡ after_run l.outcome l.n (firm_of l.self))
    × (turns l.outcome (firm_of l.self) ≡ first_from (turned l.outcome (firm_of l.self)) (l.self.k - l.n) l.n)
