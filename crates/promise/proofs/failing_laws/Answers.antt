use Rattle.promise.proofs.Failures.{never_or_failing}
use Rattle.promise.proofs.Further.{fails_later}
use Rattle.promise.proofs.Firsts.{first_picked, none_picked}
use Rattle.promise.proofs.Runs.{ran_fails, first_fails}
use Rattle.promise.proofs.failing_laws.Goals as goal

pub returns : goal.returns
returns c = record { unit = first_fails; run = ran_fails; later = fails_later; picked = first_picked; none = none_picked; apart = never_or_failing }
