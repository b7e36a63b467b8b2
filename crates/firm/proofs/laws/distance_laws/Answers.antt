use Rattle.firm.proofs.Turning.{distance_none, distance_fails, distance_miss, distance_met, distance_most, distance_at}
use Rattle.firm.proofs.laws.distance_laws.Goals as goal

pub returns : goal.returns
returns c = λ m k h some most. record {
  none = distance_none m k h some most;
  fails = distance_fails m k h some most;
  miss = distance_miss m k h some most;
  met = distance_met m k h some most;
  most = distance_most m k h;
  place = λ l p. distance_at m k h l some most p;
}
