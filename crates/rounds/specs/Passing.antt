-- The histories of a table, slot by slot, and that among more than N of them two are equal. Assumes nothing.
use Rattle.std.specs.Prelude.{◌≡◌, ℕ, ◌^◌, ◌<◌, ◌≤◌, true, List, [], ◌∷◌, Some, None, Option}
use Rattle.firm.specs.Histories.{passes}
use Rattle.model.specs.Streams.{Stream}
use Rattle.model.specs.Tables.{Table}

-- a history for each occupied slot
abbrev pub Bits : Type 0
Bits = List (Option ℕ)

-- a history of the stream's k outcomes that passes
pub record Passes (s : Stream) (bits : ℕ) : Type 0 where
  pub fits : bits < 2 ^ s.history.k
  pub passed : passes s.history.m s.history.k bits ≡ true

-- a passing history for each stream of the table, and none for an empty slot
abbrev pub Passing : Table → Bits → Type 0
Passing [] [] = Unit {0}
Passing [] (b ∷ bs) = ⊥
Passing (o ∷ t) [] = ⊥
Passing (None ∷ t) (None ∷ bs) = Passing t bs
Passing (None ∷ t) (Some b ∷ bs) = ⊥
Passing (Some s ∷ t) (None ∷ bs) = ⊥
Passing (Some s ∷ t) (Some b ∷ bs) = Passes s b × Passing t bs

-- a value that stands at two of the places 0 to n
pub record Twice {X : Type 0} (f : ℕ → X) (n : ℕ) : Type 0 where
  pub first : ℕ
  pub second : ℕ
  pub apart : first < second
  pub within : second ≤ n
  pub same : f first ≡ f second
