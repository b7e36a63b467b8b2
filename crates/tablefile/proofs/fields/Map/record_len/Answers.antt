use Rattle.std.proofs.Common.{arith}
use Rattle.model.specs.Fields.{start}
use Rattle.tablefile.proofs.fields.Map.record_len.Goals as goal

pub returns : goal.returns
unfolding start
returns c = omega arith
