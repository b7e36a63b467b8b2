use Rattle.laws.proofs.Running.{clear_at_hyper_period}
use Rattle.laws.proofs.Units.{release_laws}
use Rattle.laws.proofs.release_laws.Goals as goal

pub returns : goal.returns
returns c = record { free = release_laws; boundary = clear_at_hyper_period }
