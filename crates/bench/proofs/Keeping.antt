-- What a running bench keeps: the streams of its table, whatever units are worked. Assumes nothing.
use Rattle.std.proofs.Common.{◌≡◌, ◌+◌, ◌≤◌, Bool, List, length, ap, ◌∙◌, arith}
use mathlib.Core.Logic.{∥∥₁_map}
use Rattle.model.specs.Bench.{last_instant}
use Rattle.model.specs.Forecast.{table_of}
use Rattle.model.specs.Machine.{State}
use Rattle.model.specs.Ready.{Ready}
use Rattle.model.specs.Schedule.{started, run}
use Rattle.model.specs.Tables.{Table}
use Rattle.laws.specs.Sound.{Sound}
use Rattle.laws.proofs.Held.{held_sound}
use Rattle.laws.proofs.Running.{run_now, run_table, table_started}

pub kept_start : (t : Table) (s : State) → s ≡ started t → ∥ table_of s ≡ t ∥₁
kept_start t s e = ∣ ap table_of e ∙ table_started t ∣₁

pub kept_run : (before : Ready → Ready → Bool) (t : Table) (s x : State) (noise : List Bool)
    → ∥ Sound s ∥₁ → x ≡ run before s noise → ∥ table_of s ≡ t ∥₁ → ∥ table_of x ≡ t ∥₁
kept_run before t s x noise sound e same =
    ∥∥₁_map same (λ h. ap table_of e ∙ run_table before s noise (held_sound s sound) ∙ h)

-- and an instant that is not above the last one
pub early_start : (t : Table) (s : State) → s ≡ started t → s.now ≤ last_instant
unfolding started
early_start t s e = omega (arith, ap (λ (x : State). x.now) e)

pub early_run : (before : Ready → Ready → Bool) (s x : State) (noise : List Bool) → s.now + length noise ≤ last_instant → x ≡ run before s noise → x.now ≤ last_instant
early_run before s x noise room e = omega (arith, ap (λ (y : State). y.now) e, run_now before s noise)
