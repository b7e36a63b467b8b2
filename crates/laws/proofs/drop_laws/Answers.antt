use Rattle.laws.proofs.Units.{dropped_laws, left_in_time}
use Rattle.laws.proofs.drop_laws.Goals as goal

pub returns : goal.returns
returns c = record { dropped = dropped_laws; left = left_in_time }
