use Rattle.std.proofs.Common.{rules, subst}
use Rattle.replay.proofs.Calls.{Leads, leads_all}
use Rattle.replay.specs.Stands.{call_of, rule_in, stands}
use Rattle.replay.proofs.either.Bench.call_all.Given as given
use Rattle.replay.proofs.either.Bench.call_all.Goals as goal
use Rattle.replay.proofs.either.Bench.call_all.Goals.{After-try_fold}

-- where all the calls lead
leads :
    (g : given.Over) (c : After-try_fold g)
    → Leads call_of stands rule_in g.R.Rule.before (rule_in c.args.self) (stands c.args.self) c.args.calls.now c.try_fold.result
leads g c =
    let d = c.try_fold.ensures.ran in
    subst (λ l. Leads call_of stands rule_in g.R.Rule.before (rule_in c.args.self) (stands c.args.self) l c.try_fold.result) c.iter.ensures.rest
    (leads_all call_of stands rule_in g.R.Rule.before _ (λ p q b x v called. (search rules, search rules))
    d.0 d.1 _ d.4.0 _ _ d.2 _ d.3 _ d.4.1 d.4.2 d.5 d.6)

pub returns-clause-bench : goal.returns-clause-bench
returns-clause-bench g c = (leads g c).0

pub returns-clause-rule : goal.returns-clause-rule
returns-clause-rule g c = (leads g c).1
