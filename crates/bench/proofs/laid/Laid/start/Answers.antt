use Rattle.bench.proofs.Keeping.{kept_start, early_start}
use Rattle.bench.proofs.laid.Laid.start.Goals as goal

pub invariant_of-result : goal.invariant_of-result
invariant_of-result g c =
    record { early = early_start _ _ c.start-machine.ensures; same = kept_start _ _ c.start-machine.ensures }
