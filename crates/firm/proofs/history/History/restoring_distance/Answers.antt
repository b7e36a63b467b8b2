use Rattle.firm.specs.Histories.{restoring}
use Rattle.firm.proofs.Turning.{restoring_least}
use Rattle.firm.proofs.history.History.restoring_distance.Goals as goal

pub returns : goal.returns
unfolding restoring
returns c =
    let h = c.args.self.now in
    let same = c.repeats_until_turned.ensures in
    record { value = same; least = rw same (restoring_least h.m h.k h.bits h.some h.most) }
