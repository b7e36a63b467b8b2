-- The history of a stream that needs at least m of any k consecutive frames on time: its latest k outcomes, as a number.
-- Bit 0 is the newest outcome, 1 for met and 0 for missed. Assumes nothing.
use Rattle.std.specs.Prelude.{◌≡◌, ℕ, zero, suc, ◌+◌, ◌-◌, ◌*◌, ◌/◌, ◌%◌, ◌^◌, ◌<◌, ◌≤◌, Bool, true, cond, not, ◌⊎◌, Ok, Err, Result, count_ones, nat_le}
use Rattle.refusal.specs.Tests.{outside}
use Rattle.refusal.specs.declared.Refusal.{Refusal}
use Rattle.refusal.specs.declared.Refusal.TheVariants.{WindowRange, RequiredRange, HistoryWidth}
use Rattle.firm.specs.declared.outcome.Outcome.{Outcome}
use Rattle.firm.specs.declared.outcome.Outcome.TheVariants.{Met, Missed}
use Rattle.firm.specs.Searches.{first_from}

-- ---- over plain numbers: m of k, the history h

-- the history after one more outcome, of bit b: every bit moves up one place, and the oldest leaves
unfoldable pub entered : ℕ → ℕ → ℕ → ℕ
entered k h b = (2 * h + b) % 2 ^ k

-- the history after n outcomes in a row, each of bit b
unfoldable pub repeated : ℕ → ℕ → ℕ → ℕ → ℕ
repeated k b zero h = h
repeated k b (suc n) h = entered k (repeated k b n h) b

-- at least m of the k latest outcomes are met
unfoldable pub passes : ℕ → ℕ → ℕ → Bool
passes m k h = nat_le m (count_ones (h % 2 ^ k))

-- after n misses in a row the history no longer passes
abbrev pub lost : ℕ → ℕ → ℕ → ℕ → Bool
lost m k h n = not (passes m k (repeated k 0 n h))

-- after n mets in a row the history passes
abbrev pub regained : ℕ → ℕ → ℕ → ℕ → Bool
regained m k h n = passes m k (repeated k 1 n h)

-- the least number of misses in a row after which the history no longer passes
unfoldable pub distance : ℕ → ℕ → ℕ → ℕ
distance m k h = first_from (lost m k h) k 0

-- the least number of mets in a row after which the history passes
unfoldable pub restoring : ℕ → ℕ → ℕ → ℕ
restoring m k h = first_from (regained m k h) k 0

-- l is the place of the m-th one among the k bits, the newest outcome being place 1; with fewer than m ones, l is k + 1
abbrev pub Place : ℕ → ℕ → ℕ → ℕ → Type 0
Place m k h l =
    ((1 ≤ l) × (l ≤ k) × (h / 2 ^ (l - 1) % 2 ≡ 1) × (count_ones (h % 2 ^ l) ≡ m))
    ⊎ ((l ≡ k + 1) × (count_ones (h % 2 ^ k) < m))

-- ---- over a history with its m and k

-- a history by its three numbers
pub record Firm : Type 0 where
  pub m : ℕ
  pub k : ℕ
  pub bits : ℕ

-- the three numbers as a history, or the first test that refuses them: k outside 1 to 16, m outside 1 to k, a one in bit k or above
abbrev pub firm : ℕ → ℕ → ℕ → Result Firm Refusal
firm m k h =
    cond (outside 1 16 k) (Err WindowRange)
    (cond (outside 1 k m) (Err RequiredRange)
    (cond (nat_le (2 ^ k) h) (Err HistoryWidth) (Ok (record { m = m; k = k; bits = h }))))

-- the history after one more outcome, of bit b
abbrev pub after : Firm → ℕ → Firm
after f b = record { m = f.m; k = f.k; bits = entered f.k f.bits b }

abbrev pub passing : Firm → Bool
passing f = passes f.m f.k f.bits

-- after n misses in a row it no longer passes; after n mets in a row it passes
abbrev pub Lost : Firm → ℕ → Type 0
Lost f n = lost f.m f.k f.bits n ≡ true

abbrev pub Regained : Firm → ℕ → Type 0
Regained f n = regained f.m f.k f.bits n ≡ true

abbrev pub distance_of : Firm → ℕ
distance_of f = distance f.m f.k f.bits

abbrev pub restoring_of : Firm → ℕ
restoring_of f = restoring f.m f.k f.bits

abbrev pub PlaceOf : Firm → ℕ → Type 0
PlaceOf f l = Place f.m f.k f.bits l

-- n equal outcomes in a row have turned the history: mets, so that it passes, or misses, so that it no longer passes
abbrev pub turned : Outcome → Firm → ℕ → Bool
turned Met f = regained f.m f.k f.bits
turned Missed f = lost f.m f.k f.bits

-- the least number of them that does
abbrev pub turns : Outcome → Firm → ℕ
turns o f = first_from (turned o f) f.k 0
