-- A periodic frame stream by its numbers. Assumes nothing.
use Rattle.std.specs.Prelude.{ℕ, cond, Err, Result}
use Rattle.refusal.specs.declared.Refusal.{Refusal}
use Rattle.refusal.specs.declared.Refusal.TheVariants.{PeriodRange, DeadlineRange, ServiceRange}
use Rattle.refusal.specs.Tests.{outside, on_ok}
use Rattle.firm.specs.Histories.{Firm, firm}

-- a period T, a relative deadline D, a service time C and a history
pub record Stream : Type 0 where
  pub period : ℕ
  pub deadline : ℕ
  pub service : ℕ
  pub history : Firm

-- a stream by its numbers T, D, C, m, k and history, or the first test that refuses them:
-- T outside 1 to 4,096, D outside 1 to T, C outside 1 to D, then the tests of a history
abbrev pub stream : ℕ → ℕ → ℕ → ℕ → ℕ → ℕ → Result Stream Refusal
stream t d c m k h =
    cond (outside 1 4096 t) (Err PeriodRange)
    (cond (outside 1 t d) (Err DeadlineRange)
    (cond (outside 1 d c) (Err ServiceRange)
    (on_ok (λ f. record { period = t; deadline = d; service = c; history = f }) (firm m k h))))
