-- The number of a waiting frame. Assumes nothing.
use Rattle.std.specs.Prelude.{ℕ, Some, None, Option}

-- frames are counted from 1; 0 where none waits
abbrev pub number : Option ℕ → ℕ
number None = 0
number (Some j) = j
