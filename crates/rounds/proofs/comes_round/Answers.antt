use Rattle.rounds.proofs.Rounds.{comes_round}
use Rattle.rounds.proofs.comes_round.Goals as goal

pub returns : goal.returns
returns g c = λ f told a b less e. comes_round f told a b less e
