-- A table's hyper-period as one fold over its slots. Assumes nothing.
use Rattle.std.proofs.Common.{◌≡◌, ℕ, zero, suc, ◌<◌, ◌≤◌, List, [], ◌∷◌, length, get_or, take, None, Some, Option, sym, ◌∙◌, le_trans, le_of_suc-le-suc, not-suc-le-zero, subst, arith}
use Rattle.std.specs.List.{fold}
use Rattle.std.specs.Option.{IfSome, option_map_or}
use Rattle.model.specs.Tables.{lcm, hyper_period}
use Rattle.model.proofs.Multiples.{lcm_positive, lcm_one_left, lcm_one_right, le_lcm_left}
use Rattle.model.proofs.Periods.{hyper_positive, hyper_period_more}
use Rattle.streams.proofs.Slots.{period_positive, slots_periodic}
use Rattle.streams.specs.Stands.{stream_of, slots_of}
use Rattle.streams.specs.declared.stream.Stream.{Stream}

-- the least common multiple of p and the period of the stream in a slot; p for an empty slot
abbrev pub with_slot : ℕ → Option Stream → ℕ
with_slot p slot = option_map_or (λ s. lcm p s.period) slot p

-- the least common multiple of p and the periods of the streams in some slots
abbrev pub joint : ℕ → List (Option Stream) → ℕ
joint p slots = fold with_slot p slots

with_slot_positive : (p : ℕ) (slot : Option Stream) → 0 < p → 0 < with_slot p slot
with_slot_positive p None h = h
with_slot_positive p (Some s) h = lcm_positive p s.period h (period_positive s)

pub joint_positive : (p : ℕ) (slots : List (Option Stream)) → 0 < p → 0 < joint p slots
joint_positive p [] h = h
joint_positive p (o ∷ slots) h = joint_positive (with_slot p o) slots (with_slot_positive p o h)

-- neither shrinks p
with_slot_grows : (p : ℕ) (slot : Option Stream) → 0 < p → p ≤ with_slot p slot
with_slot_grows p None h = omega arith
with_slot_grows p (Some s) h = le_lcm_left p s.period h (period_positive s)

grows : (p : ℕ) (slots : List (Option Stream)) → 0 < p → p ≤ joint p slots
grows p [] h = omega arith
grows p (o ∷ slots) h = le_trans (with_slot_grows p o h) (grows (with_slot p o) slots (with_slot_positive p o h))

-- so with the first slots and the next one it is no larger than with all
pub joint_within : (p k : ℕ) (slots : List (Option Stream)) (o : Option Stream) → 0 < p → k < length slots → o ≡ get_or slots k o → with_slot (joint p (take k slots)) o ≤ joint p slots
joint_within p k [] o h l e = absurd (not-suc-le-zero l)
joint_within p zero (r ∷ slots) o h l e =
    subst (λ (x : Option Stream). with_slot p x ≤ joint (with_slot p r) slots) (sym e) (grows (with_slot p r) slots (with_slot_positive p r h))
joint_within p (suc k) (r ∷ slots) o h l e =
    joint_within (with_slot p r) k slots o (with_slot_positive p r h) (le_of_suc-le-suc l) e

-- what `with_slot` asks, from a bound of what it gives
pub slot_within : (p : ℕ) (slot : Option Stream) (top : ℕ) → with_slot p slot ≤ top → IfSome slot (λ s. lcm p s.period ≤ top)
slot_within p None top h = tt
slot_within p (Some s) top h = h

joint_from : (p : ℕ) (slots : List (Option Stream)) → 0 < p → joint p slots ≡ lcm p (hyper_period (slots_of slots))
unfolding hyper_period
joint_from p [] h = sym (lcm_one_right p h)
joint_from p (None ∷ slots) h = joint_from p slots h
joint_from p (Some s ∷ slots) h =
    joint_from (lcm p s.period) slots (lcm_positive p s.period h (period_positive s))
    ∙ sym (hyper_period_more p (stream_of s) (slots_of slots) h (period_positive s) (slots_periodic slots))

pub joint_slots : (slots : List (Option Stream)) → joint 1 slots ≡ hyper_period (slots_of slots)
joint_slots slots = joint_from 1 slots (omega arith) ∙ lcm_one_left _ (hyper_positive (slots_of slots) (slots_periodic slots))
