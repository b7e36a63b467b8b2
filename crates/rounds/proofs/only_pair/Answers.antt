use Rattle.rounds.proofs.Rounds.{only_pair}
use Rattle.rounds.proofs.only_pair.Goals as goal

pub returns : goal.returns
returns g c = λ f told mu lam least i j less most e. only_pair f told mu lam least i j less most e
