-- A table of eight slots, each empty or with a stream; its hyper-period P and its number N of passing histories. Assumes nothing.
use Rattle.std.specs.Prelude.{◌≡◌, ℕ, ◌*◌, ◌%◌, ◌<◌, ◌≤◌, cond, List, [], ◌∷◌, replicate, is_some, Some, None, Ok, Err, Option, Result, nat_eq, nat_lt, slice_index_or, slice_set}
use Rattle.refusal.specs.declared.Refusal.{Refusal}
use Rattle.refusal.specs.declared.Refusal.TheVariants.{SlotRange, SlotTaken, HyperPeriodLimit, HistoryLimit}
use Rattle.binomial.specs.Choose.{at_least}
use Rattle.firm.specs.Searches.{first_from}
use Rattle.model.specs.Streams.{Stream}

abbrev pub Table : Type 0
Table = List (Option Stream)

abbrev pub empty : Table
empty = replicate 8 None

-- d divides n
abbrev pub Divides : ℕ → ℕ → Type 0
Divides d n = n % d ≡ 0

-- the least common multiple of a and b: the first multiple of a that b divides
unfoldable pub lcm : ℕ → ℕ → ℕ
lcm a b = a * first_from (λ j. nat_eq ((a * j) % b) 0) b 1

-- the hyper-period P: the least common multiple of the periods, 1 for an empty table
unfoldable pub hyper_period : Table → ℕ
hyper_period [] = 1
hyper_period (None ∷ t) = hyper_period t
hyper_period (Some s ∷ t) = lcm s.period (hyper_period t)

-- how many of the histories of a stream's k outcomes pass: those with at least m mets
abbrev pub passing_count : Stream → ℕ
passing_count s = at_least s.history.k s.history.m

-- N: the product of the counts of passing histories, 1 for an empty table
unfoldable pub histories : Table → ℕ
histories [] = 1
histories (None ∷ t) = histories t
histories (Some s ∷ t) = passing_count s * histories t

-- every stream of the table has the property
abbrev pub Every : (Stream → Type 0) → Table → Type 0
Every P [] = Unit {0}
Every P (None ∷ t) = Every P t
Every P (Some s ∷ t) = P s × Every P t

-- every period of the table divides n
abbrev pub Common : Table → ℕ → Type 0
Common t n = Every (λ s. Divides s.period n) t

-- what P means: the least positive number that all periods divide
pub record LeastCommon (t : Table) (p : ℕ) : Type 0 where
  pub positive : 0 < p
  pub common : Common t p
  pub least : (q : ℕ) → 0 < q → Common t q → p ≤ q

-- the table with a stream laid into a slot, or the first test that refuses it:
-- the slot above 7, the slot taken, P above 36,864, N above 1,048,576
abbrev pub placed : Table → ℕ → Stream → Result Table Refusal
placed t i s =
    cond (nat_lt 7 i) (Err SlotRange)
    (cond (is_some (slice_index_or t i None)) (Err SlotTaken)
    (cond (nat_lt 36864 (hyper_period (slice_set t i (Some s)))) (Err HyperPeriodLimit)
    (cond (nat_lt 1048576 (histories (slice_set t i (Some s)))) (Err HistoryLimit) (Ok (slice_set t i (Some s))))))
