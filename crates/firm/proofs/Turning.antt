-- Laws of the two distances of a history: the least number of misses in a row that it does not stand, and of mets that restore it.
-- Each is the number of equal outcomes that turn the history, so most is shown once, of either outcome. Assumes nothing.
use Rattle.std.proofs.Common.{◌≡◌, ℕ, zero, suc, ◌+◌, ◌-◌, ◌*◌, ◌/◌, ◌%◌, ◌^◌, ◌<◌, ◌≤◌, true, false, not, leb, Decides, sym, refl, ap, ◌∙◌, inl, inr, arith}
use lib.Count.{ones, ones-le}
use Rattle.std.proofs.lemmas.Nat.{mod_below}
use Rattle.std.proofs.lemmas.Bool.{not-true, not_from_false, le-leb, lt-leb, leb-true, leb-false, cases_Bool, cases_eq, cases_lt}
use Rattle.firm.specs.declared.outcome.Outcome.{Outcome}
use Rattle.firm.specs.declared.outcome.Outcome.TheVariants.{Met, Missed}
use Rattle.firm.specs.Outcomes.{bit}
use Rattle.firm.specs.Searches.{Least}
use Rattle.firm.specs.Histories.{Firm, entered, repeated, passes, lost, regained, distance, restoring, Place, after, turned, turns}
use Rattle.firm.proofs.Searching.{first_within, first_least, least_below, least_unique}
use Rattle.firm.proofs.Counting.{ones_place, ones_wider, ones_met, passes_repeated}

-- the same outcome first or last
pub repeated_front : (k b n h : ℕ) → repeated k b n (entered k h b) ≡ repeated k b (suc n) h
unfolding repeated
repeated_front k b zero h = refl
repeated_front k b (suc n) h = ap (λ (x : ℕ). entered k x b) (repeated_front k b n h)

-- what n misses leave, and what n mets make
pub lost_when : (m k h n : ℕ) → n ≤ k → lost m k h n ≡ not (leb m (ones (h % 2 ^ (k - n))))
lost_when m k h n room =
    let none : ones (h % 2 ^ (k - n)) + 0 * n ≡ ones (h % 2 ^ (k - n)) = omega arith in
    ap not (passes_repeated m k 0 h n (omega arith) room ∙ ap (leb m) none)

pub regained_when : (m k h n : ℕ) → n ≤ k → regained m k h n ≡ leb m (ones (h % 2 ^ (k - n)) + n)
regained_when m k h n room =
    let each : ones (h % 2 ^ (k - n)) + 1 * n ≡ ones (h % 2 ^ (k - n)) + n = omega arith in
    passes_repeated m k 1 h n (omega arith) room ∙ ap (leb m) each

-- k misses leave nothing, and m mets are enough
pub lost_all : (m k h : ℕ) → 1 ≤ m → lost m k h k ≡ true
lost_all m k h some =
    let none : k - k ≡ 0 = omega arith in
    let few : ones (h % 2 ^ (k - k)) ≤ 0 = rw none (ones-le 0 (h % 2 ^ 0) (mod_below h 1 (omega arith))) in
    lost_when m k h k (omega arith) ∙ not_from_false _ (lt-leb m (ones (h % 2 ^ (k - k))) (omega arith))

pub regained_by : (m k h n : ℕ) → m ≤ n → n ≤ k → regained m k h n ≡ true
regained_by m k h n enough room = regained_when m k h n room ∙ le-leb m (ones (h % 2 ^ (k - n)) + n) (omega arith)

-- ---- either outcome

-- the history with n more outcomes, all equal
abbrev pub after_run : Outcome → ℕ → Firm → Firm
after_run o n f = record { m = f.m; k = f.k; bits = repeated f.k (bit o) n f.bits }

-- it is turned exactly where those n outcomes turn the history
pub turned_run : (o : Outcome) (n : ℕ) (f : Firm) → turned o (after_run o n f) 0 ≡ turned o f n
unfolding repeated
turned_run Met n f = refl
turned_run Missed n f = refl

module _ (o : Outcome) (f : Firm) (some : 1 ≤ f.m) (most : f.m ≤ f.k) where
  turned_all : turned o f f.k ≡ true
  turned_all = elim o as (λ v. turned v f f.k ≡ true) [
    | Met ↦ regained_by f.m f.k f.bits f.k most (omega arith)
    | Missed ↦ lost_all f.m f.k f.bits some
  ]

  turns_least : Least (λ n. turned o f n ≡ true) (turns o f)
  turns_least = first_least (turned o f) f.k f.k (omega arith) turned_all

  turns_zero : Decides (turned o f 0) (turns o f ≡ 0)
  turns_zero = (λ t. omega (arith, least_below _ (turns o f) 0 turns_least t), λ z. rw z at turns_least.holds)

turned_front : (o : Outcome) (f : Firm) (n : ℕ) → turned o (after f (bit o)) n ≡ turned o f (suc n)
turned_front Met f n = ap (passes f.m f.k) (repeated_front f.k 1 n f.bits)
turned_front Missed f n = ap (λ (x : ℕ). not (passes f.m f.k x)) (repeated_front f.k 0 n f.bits)

-- each such outcome is one less to come
turns_step : (o : Outcome) (f : Firm) → 1 ≤ f.m → f.m ≤ f.k → 0 < turns o f → turns o (after f (bit o)) + 1 ≡ turns o f
turns_step o f some most far =
    let least = turns_least o f some most in
    let one : turns o f ≡ suc (turns o f - 1) = omega arith in
    let next : Least (λ n. turned o (after f (bit o)) n ≡ true) (turns o f - 1) = record {
      holds = turned_front o f (turns o f - 1) ∙ rw (← one) least.holds;
      before = λ j b t. least.before (suc j) (omega arith) (sym (turned_front o f j) ∙ t);
    } in
    let same = least_unique _ _ _ (turns_least o (after f (bit o)) some most) next in
    omega arith

-- ---- the distance

pub distance_least : (m k h : ℕ) → 1 ≤ m → m ≤ k → Least (λ n. lost m k h n ≡ true) (distance m k h)
unfolding distance
distance_least m k h some most = turns_least Missed (record { m = m; k = k; bits = h }) some most

pub distance_most : (m k h : ℕ) → distance m k h ≤ k
unfolding distance
distance_most m k h = omega (arith, first_within (lost m k h) k 0)

pub distance_none : (m k h : ℕ) → 1 ≤ m → m ≤ k → distance m k h ≡ 0 → passes m k h ≡ false
unfolding distance repeated
distance_none m k h some most z = not-true _ ((turns_zero Missed (record { m = m; k = k; bits = h }) some most).1 z)

pub distance_fails : (m k h : ℕ) → 1 ≤ m → m ≤ k → passes m k h ≡ false → distance m k h ≡ 0
unfolding distance repeated
distance_fails m k h some most f = (turns_zero Missed (record { m = m; k = k; bits = h }) some most).0 (not_from_false _ f)

pub distance_miss : (m k h : ℕ) → 1 ≤ m → m ≤ k → 0 < distance m k h → distance m k (entered k h 0) + 1 ≡ distance m k h
unfolding distance
distance_miss m k h some most far = turns_step Missed (record { m = m; k = k; bits = h }) some most far

-- at the distance too few ones are left, and before it enough
distance_few : (m k h : ℕ) → 1 ≤ m → m ≤ k → ones (h % 2 ^ (k - distance m k h)) < m
distance_few m k h some most =
    let at = lost_when m k h (distance m k h) (distance_most m k h) in
    leb-false m _ (not-true _ (sym at ∙ (distance_least m k h some most).holds))

distance_enough : (m k h n : ℕ) → 1 ≤ m → m ≤ k → n < distance m k h → m ≤ ones (h % 2 ^ (k - n))
distance_enough m k h n some most b =
    let at = lost_when m k h n (omega (arith, distance_most m k h)) in
    elim (cases_Bool (leb m (ones (h % 2 ^ (k - n))))) [
      | inl e ↦ leb-true m _ e
      | inr e ↦ absurd ((distance_least m k h some most).before n b (at ∙ not_from_false _ e))
    ]

pub distance_met : (m k h : ℕ) → 1 ≤ m → m ≤ k → distance m k h ≤ distance m k (entered k h 1)
distance_met m k h some most =
    let n : ℕ = distance m k (entered k h 1) in
    let few = distance_few m k (entered k h 1) some most in
    elim (cases_lt n (distance m k h)) [
      | inl b ↦ absurd (omega (arith, distance_enough m k h n some most b, ones_met k h (k - n) (omega arith)))
      | inr l ↦ l
    ]

-- the distance is what the place of the m-th one leaves of the window
pub distance_place : (m k h : ℕ) → 1 ≤ m → m ≤ k → (l : ℕ) × Place m k h l × (distance m k h + l ≡ k + 1)
distance_place m k h some most =
    let r : ℕ = distance m k h in
    let room : r ≤ k = distance_most m k h in
    let few : ones (h % 2 ^ (k - r)) < m = distance_few m k h some most in
    elim (cases_eq r 0) [
      | inl z ↦ let whole : k - r ≡ k = omega arith in (k + 1, inr (refl, rw whole at few), omega arith)
      | inr far ↦
          let next : k - (r - 1) ≡ 1 + (k - r) = omega arith in
          let enough : m ≤ ones (h % 2 ^ (1 + (k - r))) = rw next at (distance_enough m k h (r - 1) some most (omega arith)) in
          let place = ones_place h (k - r) in
          let bit_below = mod_below (h / 2 ^ (k - r)) 2 (omega arith) in
          let back : 1 + (k - r) - 1 ≡ k - r = omega arith in
          (1 + (k - r), inl (omega arith, omega arith, rw back (omega arith), omega arith), omega arith)
    ]

-- what the place of the m-th one tells: fewer ones below it, enough at it
record Reached (m k h l : ℕ) : Type 0 where
  below : (i : ℕ) → i < l → i ≤ k → ones (h % 2 ^ i) < m
  there : l ≤ k → m ≤ ones (h % 2 ^ l)
  within : l ≤ k + 1

reached : (m k h l : ℕ) → Place m k h l → Reached m k h l
reached m k h l (inl (some, room, bit-there, count)) =
    let next : 1 + (l - 1) ≡ l = omega arith in
    let place = rw next at (ones_place h (l - 1)) in
    record {
      below = λ i b _. let up : l - 1 - i + i ≡ l - 1 = omega arith in omega (arith, rw up at (ones_wider h i (l - 1 - i)));
      there = λ _. omega arith;
      within = omega arith;
    }
reached m k h l (inr (past, few)) = record {
  below = λ i b room. let up : k - i + i ≡ k = omega arith in omega (arith, rw up at (ones_wider h i (k - i)));
  there = λ room. absurd (omega arith);
  within = omega arith;
}

reached_first : (m k h l n : ℕ) → Reached m k h l → Reached m k h n → n ≤ l
reached_first m k h l n a b = elim (cases_lt l n) [
  | inl under ↦ absurd (omega (arith, a.there (omega arith), b.below l under (omega arith)))
  | inr above ↦ above
]

pub place_unique : (m k h l n : ℕ) → Place m k h l → Place m k h n → l ≡ n
place_unique m k h l n p q =
    let a = reached m k h l p in
    let b = reached m k h n q in
    omega (arith, reached_first m k h l n a b, reached_first m k h n l b a)

pub distance_at : (m k h l : ℕ) → 1 ≤ m → m ≤ k → Place m k h l → distance m k h + l ≡ k + 1
distance_at m k h l some most p =
    let known = distance_place m k h some most in
    omega (arith, known.2, place_unique m k h l known.0 p known.1)

-- ---- the restoring distance

pub restoring_least : (m k h : ℕ) → 1 ≤ m → m ≤ k → Least (λ n. regained m k h n ≡ true) (restoring m k h)
unfolding restoring
restoring_least m k h some most = turns_least Met (record { m = m; k = k; bits = h }) some most

pub restoring_most : (m k h : ℕ) → 1 ≤ m → m ≤ k → restoring m k h ≤ m
restoring_most m k h some most = least_below _ _ m (restoring_least m k h some most) (regained_by m k h m (omega arith) most)

pub restoring_none : (m k h : ℕ) → 1 ≤ m → m ≤ k → restoring m k h ≡ 0 → passes m k h ≡ true
unfolding restoring repeated
restoring_none m k h some most z = (turns_zero Met (record { m = m; k = k; bits = h }) some most).1 z

pub restoring_passed : (m k h : ℕ) → 1 ≤ m → m ≤ k → passes m k h ≡ true → restoring m k h ≡ 0
unfolding restoring repeated
restoring_passed m k h some most p = (turns_zero Met (record { m = m; k = k; bits = h }) some most).0 p

pub restoring_met : (m k h : ℕ) → 1 ≤ m → m ≤ k → 0 < restoring m k h → restoring m k (entered k h 1) + 1 ≡ restoring m k h
unfolding restoring
restoring_met m k h some most far = turns_step Met (record { m = m; k = k; bits = h }) some most far
