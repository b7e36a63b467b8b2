use Rattle.std.proofs.Common.{rules}
use Rattle.firm.proofs.Passing.{passing_counted}
use Rattle.firm.proofs.history.History.passing_count.Goals as goal

pub returns-clause-counted : goal.returns-clause-counted
returns-clause-counted c = let h = passing_counted c.args.self.now.m c.args.self.now.k in search rules
