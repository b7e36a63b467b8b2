-- A sequence in which each value tells the next one, and how it comes round. Assumes nothing.
use Rattle.std.specs.Prelude.{◌≡◌, ℕ, ◌+◌, ◌-◌, ◌<◌, ◌≤◌, Bool, true}

-- equal values are followed by equal values
abbrev pub Told : {X : Type 0} → (ℕ → X) → Type 0
Told f = (i j : ℕ) → f i ≡ f j → f (i + 1) ≡ f (j + 1)

-- what a value that stands at a and again at b tells of the whole sequence
pub record Round {X : Type 0} (f : ℕ → X) (a b : ℕ) : Type 0 where
  -- from a on, each value stands again b - a places later
  pub again : (i : ℕ) → a ≤ i → f (i + (b - a)) ≡ f i
  -- a test that the first b values pass is passed by every value
  pub always : (good : X → Bool) → ((i : ℕ) → i < b → good (f i) ≡ true) → (i : ℕ) → good (f i) ≡ true

-- lam is the least positive number of places after which some value stands again, and mu the first place of a value that does so
pub record LeastRound {X : Type 0} (f : ℕ → X) (mu lam : ℕ) : Type 0 where
  pub forward : 0 < lam
  pub returns : f mu ≡ f (mu + lam)
  pub least_step : (i step : ℕ) → 0 < step → f i ≡ f (i + step) → lam ≤ step
  pub least_place : (i : ℕ) → f i ≡ f (i + lam) → mu ≤ i
