-- Both numbers of the empty table are 1.
use Rattle.std.proofs.Common.{refl, lit≤}
use Rattle.model.specs.Tables.{hyper_period, histories}
use Rattle.streams.proofs.table.Table.empty.Goals as goal

pub invariant_of-result : goal.invariant_of-result
unfolding hyper_period histories
invariant_of-result c = record { eight = refl; short = lit≤ tt; few = lit≤ tt }
