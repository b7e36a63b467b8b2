-- The bit of an outcome. Assumes nothing.
use Rattle.std.specs.Prelude.{ℕ}
use Rattle.firm.specs.declared.outcome.Outcome.{Outcome}
use Rattle.firm.specs.declared.outcome.Outcome.TheVariants.{Met, Missed}

-- 1 for met and 0 for missed
abbrev pub bit : Outcome → ℕ
bit Met = 1
bit Missed = 0
