-- What the ranking rules mean, over what a rule is shown. Assumes nothing.
use Rattle.std.specs.Prelude.{ℕ, Bool, true, false, cond, List, nat_lt, slice_index}
use Rattle.firm.specs.Histories.{distance_of, restoring_of}
use Rattle.model.specs.Ready.{Ready}

-- ---- bottoms

-- L: the lower slot first
abbrev pub lower_slot : Ready → Ready → Bool
lower_slot a b = nat_lt a.slot b.slot

-- H: the higher slot first
abbrev pub higher_slot : Ready → Ready → Bool
higher_slot a b = nat_lt b.slot a.slot

-- ---- layers

-- the smaller key goes first; equal keys are left to the rule below
abbrev pub layered : (Ready → ℕ) → (Ready → Ready → Bool) → Ready → Ready → Bool
layered key below a b = cond (nat_lt (key a) (key b)) true (cond (nat_lt (key b) (key a)) false (below a b))

-- ---- keys

-- D: the distance of the stream's history
abbrev pub by_distance : Ready → ℕ
by_distance f = distance_of f.history

-- R: the restoring distance of the stream's history
abbrev pub by_restoring : Ready → ℕ
by_restoring f = restoring_of f.history

-- E: the time left, so the earlier deadline first
abbrev pub by_left : Ready → ℕ
by_left f = f.left

-- M: the period, so the more frequent stream first
abbrev pub by_period : Ready → ℕ
by_period f = f.period

-- K: the rank that is given to the slot
abbrev pub by_rank : List ℕ → Ready → ℕ
by_rank ranks f = slice_index ranks f.slot

-- ---- the named rules

abbrev pub del : Ready → Ready → Bool
del = layered by_distance (layered by_left lower_slot)

abbrev pub deh : Ready → Ready → Bool
deh = layered by_distance (layered by_left higher_slot)

abbrev pub dml : Ready → Ready → Bool
dml = layered by_distance (layered by_period lower_slot)

abbrev pub drel : Ready → Ready → Bool
drel = layered by_distance (layered by_restoring (layered by_left lower_slot))

abbrev pub el : Ready → Ready → Bool
el = layered by_left lower_slot

abbrev pub ml : Ready → Ready → Bool
ml = layered by_period lower_slot
