-- What the two distances of a history do as outcomes come, of every m of k and every history h. Assumes nothing.
use Rattle.std.specs.Prelude.{◌≡◌, ℕ, ◌+◌, ◌<◌, ◌≤◌, true, false}
use Rattle.firm.specs.Histories.{entered, passes, distance, restoring, Place}

pub record DistanceLaws (m k h : ℕ) : Type 0 where
  -- it is 0 exactly where the history does not pass
  pub none : distance m k h ≡ 0 → passes m k h ≡ false
  pub fails : passes m k h ≡ false → distance m k h ≡ 0
  -- a miss lowers it by one where it is above 0
  pub miss : 0 < distance m k h → distance m k (entered k h 0) + 1 ≡ distance m k h
  -- a met never lowers it
  pub met : distance m k h ≤ distance m k (entered k h 1)
  pub most : distance m k h ≤ k
  -- there is one place of the m-th one, so the distance is k + 1 less that place
  pub place : (l : ℕ) → Place m k h l → distance m k h + l ≡ k + 1

pub record RestoringLaws (m k h : ℕ) : Type 0 where
  -- it is 0 exactly where the history passes
  pub none : restoring m k h ≡ 0 → passes m k h ≡ true
  pub passed : passes m k h ≡ true → restoring m k h ≡ 0
  -- a met lowers it by one where it is above 0
  pub met : 0 < restoring m k h → restoring m k (entered k h 1) + 1 ≡ restoring m k h
  pub most : restoring m k h ≤ m
