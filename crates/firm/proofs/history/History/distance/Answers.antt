use Rattle.firm.specs.Histories.{distance}
use Rattle.firm.proofs.Turning.{distance_least, distance_place}
use Rattle.firm.proofs.history.History.distance.Goals as goal

pub returns : goal.returns
unfolding distance
returns c =
    let h = c.args.self.now in
    let same = c.repeats_until_turned.ensures in
    record {
      value = same;
      least = rw same (distance_least h.m h.k h.bits h.some h.most);
      place = rw same (distance_place h.m h.k h.bits h.some h.most);
    }
