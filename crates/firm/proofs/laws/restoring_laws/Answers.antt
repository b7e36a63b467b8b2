use Rattle.firm.proofs.Turning.{restoring_none, restoring_passed, restoring_met, restoring_most}
use Rattle.firm.proofs.laws.restoring_laws.Goals as goal

pub returns : goal.returns
returns c = λ m k h some most. record {
  none = restoring_none m k h some most;
  passed = restoring_passed m k h some most;
  met = restoring_met m k h some most;
  most = restoring_most m k h some most;
}
