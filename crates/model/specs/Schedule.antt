-- Whole runs: a started table, units quiet and noisy, and the quiet schedule. Assumes nothing.
use Rattle.std.specs.Prelude.{ℕ, zero, suc, Bool, false, List, [], ◌∷◌, ◌++◌, map, None}
use Rattle.std.specs.Option.{option_map}
use Rattle.model.specs.Streams.{Stream}
use Rattle.model.specs.Tables.{Table}
use Rattle.model.specs.Ready.{Ready}
use Rattle.model.specs.Machine.{Row, State, Outcome, unit, outcomes}

-- a stream as it starts: its own history, nothing waiting
abbrev pub fresh : Stream → Row
fresh s = record { stream = s; bits = s.history.bits; waits = None }

-- a table at its start: instant 0, its histories, nothing waiting or in transit
unfoldable pub started : Table → State
started t = record { now = 0; rows = map (option_map fresh) t; transit = None }

module _ (before : Ready → Ready → Bool) where
  -- a run from a state: a unit for each entry of a list, noisy or quiet
  unfoldable pub run : State → List Bool → State
  run s [] = s
  run s (noisy ∷ rest) = run (unit before noisy s) rest

  -- all outcomes of a run, in the order of the units
  unfoldable pub ran : State → List Bool → List Outcome
  ran s [] = []
  ran s (noisy ∷ rest) = outcomes before noisy s ++ ran (unit before noisy s) rest

  -- the quiet schedule from a state: where it stands after n quiet units, and the outcomes of its unit n
  unfoldable pub after : State → ℕ → State
  after s zero = s
  after s (suc n) = unit before false (after s n)

  abbrev pub given : State → ℕ → List Outcome
  given s n = outcomes before false (after s n)
