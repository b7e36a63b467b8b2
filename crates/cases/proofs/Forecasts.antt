-- A forecast of a started table from what its first units give: the failure of a run of them, or two boundaries next to each other
-- that agree. Assumes nothing.
use Rattle.std.proofs.Common.{◌≡◌, ℕ, zero, suc, ◌+◌, ◌<◌, Bool, [], ◌∷◌, length, get_or, Some, None, sym, subst, arith}
use Rattle.model.specs.Streams.{Stream}
use Rattle.model.specs.Tables.{Table, Every}
use Rattle.model.specs.Ready.{Ready}
use Rattle.model.specs.Machine.{State}
use Rattle.model.specs.Schedule.{started, ran}
use Rattle.model.specs.Tally.{Failure, first_failure}
use Rattle.model.specs.Forecast.{units_to, at_boundary, Holds, Fails}
use Rattle.laws.specs.Sound.{LawfulStream, Sound}
use Rattle.laws.proofs.Running.{table_sound}
use Rattle.promise.specs.Boundaries.{Unfailing}
use Rattle.promise.proofs.Firsts.{first_picked}
use Rattle.promise.proofs.Found.{found_holds}
use Rattle.promise.proofs.Runs.{quiet, ran_fails, ran_unfailing}

-- what holds of every stream of a table holds of the one in a slot
every_slot : (P : Stream → Type 0) (t : Table) → Every P t → (i : ℕ) (s : Stream) → get_or t i None ≡ Some s → P s
every_slot P [] h i s e = absurd (let z : ◌≡◌ {A = ℕ} 0 1 = cc in omega arith)
every_slot P (None ∷ t) h zero s e = absurd (let z : ◌≡◌ {A = ℕ} 0 1 = cc in omega arith)
every_slot P (None ∷ t) h (suc i) s e = every_slot P t h i s e
every_slot P (Some r ∷ t) h zero s e = let same : r ≡ s = cc in subst P same h.0
every_slot P (Some r ∷ t) h (suc i) s e = every_slot P t h.1 i s e

pub started_sound : (t : Table) → length t ≡ 8 → Every LawfulStream t → Sound (started t)
started_sound t eight h = table_sound t (record { eight = eight; streams = every_slot LawfulStream t h })

module _ (before : Ready → Ready → Bool) (s : State) where
  -- the first failure of n units
  pub fails_in : (n : ℕ) (f : Failure) → first_failure (ran before s (quiet n)) ≡ Some f → Fails before s f
  fails_in n f e = ran_fails before s n f (first_picked (ran before s (quiet n)) f e)

  -- n units up to boundary i + 1 without a failure, boundaries i and i + 1 agree, and no boundary before them agrees with the next
  pub holds_next : Sound s → (i n : ℕ) → units_to s (i + 1) ≡ n → first_failure (ran before s (quiet n)) ≡ None
      → at_boundary before s i ≡ at_boundary before s (i + 1)
      → ((k : ℕ) → k < i → at_boundary before s k ≡ at_boundary before s (k + 1) → ⊥) → Holds before s i (i + 1)
  holds_next h i n far none same earlier =
      found_holds before s h i i 1 (record {
        forward = omega arith;
        again = same;
        no_sooner = λ step some less e. omega arith;
        unfailing = subst (Unfailing before s) (sym far) (ran_unfailing before s n none);
      }) (record { again = same; no_earlier = earlier })
