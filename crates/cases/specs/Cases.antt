-- Worked examples as one list, each stated by the definition that it is an example of. Assumes nothing.
use Rattle.std.specs.Prelude.{◌≡◌, ℕ, Bool, List, [], ◌∷◌, replicate, Some, None}
use Rattle.binomial.specs.Choose.{at_least}
use Rattle.firm.specs.Histories.{distance, restoring}
use Rattle.model.specs.Streams.{Stream}
use Rattle.model.specs.Tables.{Table, empty, hyper_period, histories}
use Rattle.model.specs.Ready.{Ready}
use Rattle.model.specs.Schedule.{started}
use Rattle.model.specs.Forecast.{Answer, Tells}
use Rattle.model.specs.Forecast.Answer.{holds, fails}
use Rattle.model.specs.Figures.{figures}
use Rattle.bus.specs.Rules.{del}

pub data Case : Type 0 where
  -- a history of m of k has this distance
  distant : ℕ → ℕ → ℕ → ℕ → Case
  -- a history of m of k has this restoring distance
  restored : ℕ → ℕ → ℕ → ℕ → Case
  -- so many histories of m of k pass
  passing : ℕ → ℕ → ℕ → Case
  -- a table has these P and N
  counted : Table → ℕ → ℕ → Case
  -- a table, started under a rule, is foretold this
  foretold : (Ready → Ready → Bool) → Table → Answer → Case
  -- from one boundary to another it has this load
  loaded : (Ready → Ready → Bool) → Table → ℕ → ℕ → ℕ → Case

abbrev pub Right : Case → Type 0
Right (distant m k h d) = distance m k h ≡ d
Right (restored m k h d) = restoring m k h ≡ d
Right (passing m k n) = at_least k m ≡ n
Right (counted t p n) = (hyper_period t ≡ p) × (histories t ≡ n)
Right (foretold before t a) = Tells before (started t) a
Right (loaded before t i j load) = (figures before (started t) i j).load ≡ load

-- a stream that is due at the end of its period, by T, C, m, k and history
abbrev pub periodic : ℕ → ℕ → ℕ → ℕ → ℕ → Stream
periodic t c m k h = record { period = t; deadline = t; service = c; history = record { m = m; k = k; bits = h } }

-- two streams: one frame of a unit in each 4, of which 2 of 4 are needed, and one of 8 units in each 10, of which 3 of 4 are
abbrev pub two_streams : ℕ → ℕ → Table
two_streams g h = Some (periodic 4 1 2 4 g) ∷ Some (periodic 10 8 3 4 h) ∷ replicate 6 None

-- in binary the leftmost digit is the oldest outcome
abbrev pub cases : List Case
cases =
    distant 3 5 0b11011 2 ∷ distant 3 5 0b10111 3
    ∷ distant 2 3 0b101 1 ∷ distant 2 3 0b011 2
    ∷ restored 4 6 0b100011 2 ∷ restored 4 6 0b111000 4 ∷ restored 4 6 0b000111 1
    ∷ restored 5 6 0b101110 2
    ∷ passing 2 4 11 ∷ passing 3 4 5 ∷ counted (two_streams 0b1111 0b1111) 20 55
    ∷ foretold del (two_streams 0b1111 0b1111) (fails (record { slot = 0; frame = 4; instant = 16 }))
    ∷ foretold del (two_streams 0b0101 0b1111) (holds 0 1)
    ∷ foretold del (two_streams 0b0010 0b1011) (holds 1 2)
    ∷ foretold del empty (holds 0 1) ∷ loaded del empty 0 1 0
    ∷ []
