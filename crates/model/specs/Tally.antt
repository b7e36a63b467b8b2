-- What a run tells of its outcomes: how many were met and missed, how many were dynamic failures, and the first of these. Assumes nothing.
use Rattle.std.specs.Prelude.{ℕ, ◌+◌, Bool, true, false, cond, not, List, [], ◌∷◌, Some, None, Option, nat_lt}
use Rattle.model.specs.Machine.{Outcome}

-- a dynamic failure: stream, frame and instant
pub record Failure : Type 0 where
  pub slot : ℕ
  pub frame : ℕ
  pub instant : ℕ

pub record Tally : Type 0 where
  pub met : ℕ
  pub missed : ℕ
  pub failures : ℕ
  pub first : Option Failure

-- how many of some outcomes pass a test
unfoldable pub how_many : (Outcome → Bool) → List Outcome → ℕ
how_many test [] = 0
how_many test (o ∷ os) = cond (test o) 1 0 + how_many test os

-- by instant, then by slot
abbrev pub sooner : Failure → Failure → Bool
sooner a b = cond (nat_lt a.instant b.instant) true (cond (nat_lt b.instant a.instant) false (nat_lt a.slot b.slot))

-- the sooner of two failures, either of which may be absent; the first of two at one instant in one slot
abbrev pub soonest : Option Failure → Option Failure → Option Failure
soonest None b = b
soonest (Some a) None = Some a
soonest (Some a) (Some b) = cond (sooner b a) (Some b) (Some a)

-- the failure that an outcome is, if it is one
abbrev pub failure_of : Outcome → Option Failure
failure_of o = cond o.failure (Some (record { slot = o.slot; frame = o.frame; instant = o.instant })) None

-- the first failure among some outcomes
unfoldable pub first_failure : List Outcome → Option Failure
first_failure [] = None
first_failure (o ∷ os) = soonest (failure_of o) (first_failure os)

unfoldable pub tally : List Outcome → Tally
tally os = record {
  met = how_many (λ o. o.met) os;
  missed = how_many (λ o. not o.met) os;
  failures = how_many (λ o. o.failure) os;
  first = first_failure os;
}
