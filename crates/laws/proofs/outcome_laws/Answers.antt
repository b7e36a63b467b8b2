use Rattle.laws.proofs.Accounts.{run_account, once, timely_from_start}
use Rattle.laws.proofs.outcome_laws.Goals as goal

pub returns : goal.returns
returns c = record { account = run_account; once = once; timely = timely_from_start }
