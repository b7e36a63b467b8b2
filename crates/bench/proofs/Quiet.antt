-- Quiet units from a state: the instant to which they lead, and how few outcomes they give. Assumes nothing.
use Rattle.std.proofs.Common.{◌≡◌, ℕ, ◌+◌, ◌*◌, ◌≤◌, Bool, false, length, replicate, ap, arith}
use lib.ListN.{length-replicate}
use Rattle.model.specs.Machine.{State}
use Rattle.model.specs.Ready.{Ready}
use Rattle.model.specs.Schedule.{run, ran}
use Rattle.model.proofs.Runs.{ran_few}
use Rattle.laws.proofs.Running.{run_now}

module _ (before : Ready → Ready → Bool) (s : State) (n : ℕ) where
  pub quiet_now : (x : State) → x ≡ run before s (replicate n false) → x.now ≡ s.now + n
  quiet_now x e = omega (arith, ap (λ (y : State). y.now) e, run_now before s (replicate n false), length-replicate n false)

  -- a unit of a table of eight slots gives at most nine outcomes
  pub quiet_few : length s.rows ≡ 8 → length (ran before s (replicate n false)) ≤ 9 * n
  quiet_few eight = omega (arith, ran_few before s (replicate n false) eight, length-replicate n false)
