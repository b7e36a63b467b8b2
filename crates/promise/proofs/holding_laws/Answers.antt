use Rattle.promise.proofs.Found.{least_holds, found_least, found_holds}
use Rattle.promise.proofs.holding_laws.Goals as goal

pub returns : goal.returns
returns c = record { least = least_holds; round = found_least; found = found_holds }
