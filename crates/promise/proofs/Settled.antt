-- While nothing fails, a row of which no frame waits or is in transit passes: its last outcome was no failure. Assumes nothing.
use Rattle.std.proofs.Common.{◌≡◌, ℕ, zero, suc, ◌+◌, ◌/◌, ◌%◌, Bool, true, false, not, eqb, [], ◌∷◌, Some, None, Option, sym, refl, ap, ◌∙◌, subst, inl, inr, arith}
use Rattle.std.specs.Option.{option_map}
use Rattle.std.proofs.lemmas.Bool.{cases_eq, cond_both, cond-true, eq-eqb, eqb-true, eqb-false, not-false}
use Rattle.firm.specs.Histories.{passes}
use Rattle.model.specs.Tables.{Divides}
use Rattle.model.specs.Ready.{Ready}
use Rattle.model.specs.Machine.{Row, Rows, Transit, State, Candidate, Outcome, with_waiting, with_outcome, in_slot, release_row, release, candidates, front, starting, start, mark, tick, leave, outcome, outcome_in, arrivals, hopeless, dropping, drop_row, drop, drops, begun, unit, outcomes}
use Rattle.model.specs.Schedule.{after}
use Rattle.laws.specs.Sound.{row_at}
use Rattle.laws.proofs.Slots.{only, mapped_some, row_each, row_in_slot}
use Rattle.laws.proofs.Leaving.{gone, leave_none, leave_later, leave_then}
use Rattle.promise.specs.Boundaries.{NoneFails, Unfailing}
use Rattle.promise.proofs.Drops.{all_parts, at_drops}

-- the history of the row passes
abbrev pub Well : Row → Type 0
Well r = passes r.stream.history.m r.stream.history.k r.bits ≡ true

-- what is in transit is not of slot i
abbrev pub OffBus : Option Transit → ℕ → Type 0
OffBus o i = (t : Transit) → o ≡ Some t → t.slot ≡ i → ⊥

-- a row of which nothing waits and nothing is in transit passes
abbrev pub Settled : State → Type 0
Settled s = (i : ℕ) (r : Row) → row_at s.rows i ≡ Some r → r.waits ≡ None → OffBus s.transit i → Well r

-- rows that come from those of a settled state, slot by slot
through : (s : State) (rows : Rows) (g : ℕ → Row → Row) (o : Option Transit) → ((i : ℕ) → row_at rows i ≡ option_map (g i) (row_at s.rows i))
    → ((i : ℕ) (q : Row) → row_at s.rows i ≡ Some q → (g i q).waits ≡ None → OffBus o i → Well (g i q))
    → (i : ℕ) (r : Row) → row_at rows i ≡ Some r → r.waits ≡ None → OffBus o i → Well r
through s rows g o at_slot well i r e none off =
    let from : (q : Row) × (row_at s.rows i ≡ Some q) × (g i q ≡ r) = mapped_some (g i) (row_at s.rows i) r (sym (at_slot i) ∙ e) in
    let same : g i from.0 ≡ r = from.2 in
    subst Well same (well i from.0 from.1 (ap (λ (x : Row). x.waits) same ∙ none) off)

-- ---- step 1

pub release_settled : (s : State) → Settled s → Settled (release s)
unfolding release
release_settled s h =
    let u : ℕ = s.now in
    through s (release s).rows (λ i. release_row u) s.transit (row_each (release_row u) s.rows) (λ i q e.
    cond_both (eqb (u % q.stream.period) 0) (with_waiting (Some (u / q.stream.period + 1)) q) q
    (λ (x : Row). x.waits ≡ None → OffBus s.transit i → Well x)
    (λ _ none off. absurd (let z : ◌≡◌ {A = ℕ} 0 1 = cc in omega arith))
    (λ _ none off. h i q e none off))

-- where every period divides the instant, every row has a frame that waits
pub all_release : (s : State) → ((i : ℕ) (r : Row) → row_at s.rows i ≡ Some r → Divides r.stream.period s.now) → Settled (release s)
unfolding release
all_release s divides =
    let u : ℕ = s.now in
    through s (release s).rows (λ i. release_row u) s.transit (row_each (release_row u) s.rows) (λ i q e none off.
    let some : Row = with_waiting (Some (u / q.stream.period + 1)) q in
    let is : release_row u q ≡ some = cond-true (eqb (u % q.stream.period) 0) some q (eq-eqb _ _ (divides i q e)) in
    let waits : (release_row u q).waits ≡ Some (u / q.stream.period + 1) = ap (λ (x : Row). x.waits) is in
    absurd (let z : ◌≡◌ {A = ℕ} 0 1 = cc in omega arith))

-- ---- step 2

starting_settled : (o : Option Transit) (d : Option Candidate) (s : State) → s.transit ≡ o → Settled s → Settled (starting o d s)
starting_settled (Some t) d s e h = h
starting_settled None None s e h = h
starting_settled None (Some c) s e h =
    let k : ℕ = c.shown.slot in
    let sent : Transit = record { slot = k; frame = c.frame; end = s.now + c.shown.service; marked = false } in
    through s (in_slot k (with_waiting None) s.rows) (λ i. only k i (with_waiting None)) (Some sent) (row_in_slot k (with_waiting None) s.rows)
    (λ i q at. cond_both (eqb k i) (with_waiting None q) q (λ (x : Row). x.waits ≡ None → OffBus (Some sent) i → Well x)
    (λ is none off. absurd (off sent refl (eqb-true k i is)))
    (λ _ none off. h i q at none (λ t there _. let z : ◌≡◌ {A = ℕ} 0 1 = cc in omega arith)))

pub start_settled : (before : Ready → Ready → Bool) (s : State) → Settled s → Settled (start before s)
unfolding start
start_settled before s h = starting_settled s.transit (front before (candidates s.now 0 s.rows)) s refl h

-- ---- step 5

pub leave_settled : (s : State) → NoneFails (arrivals s) → Settled s → (o : Option Transit) → s.transit ≡ o → Settled (leave s)
leave_settled s fine h None e = subst Settled (sym (leave_none s e).0) h
leave_settled s fine h (Some t) e = elim (cases_eq t.end s.now) [
  | inl then ↦
      let met : Bool = not t.marked in
      let F : Row → Outcome = outcome s.now t.slot t.frame met in
      let p = leave_then s t e then in
      let settled : Settled (gone t s) =
      through s (in_slot t.slot (with_outcome met) s.rows) (λ i. only t.slot i (with_outcome met)) None
      (row_in_slot t.slot (with_outcome met) s.rows)
      (λ i q at. cond_both (eqb t.slot i) (with_outcome met q) q (λ (x : Row). x.waits ≡ None → OffBus None i → Well x)
      (λ is none off.
      let here : row_at s.rows t.slot ≡ Some q = ap (row_at s.rows) (eqb-true t.slot i is) ∙ at in
      let alone : arrivals s ≡ F q ∷ [] = p.1 ∙ ap (λ x. outcome_in x F) here in
      not-false _ (subst NoneFails alone fine).0)
      (λ other none off. h i q at none (λ x there slot_is.
      let same : t ≡ x = cc in eqb-false t.slot i other (ap (λ (y : Transit). y.slot) same ∙ slot_is)))) in
      subst Settled (sym p.0) settled
  | inr later ↦ subst Settled (sym (leave_later s t e later).0) h
]

-- ---- step 6

drop_well : (u i : ℕ) (w : Option ℕ) (r : Row) (o : Option Transit) → r.waits ≡ w
    → ((j : ℕ) → r.waits ≡ Some j → hopeless u r.stream j ≡ true → (outcome u i j false r).failure ≡ false)
    → (r.waits ≡ None → OffBus o i → Well r) → (dropping u w r).waits ≡ None → OffBus o i → Well (dropping u w r)
drop_well u i None r o e fine h = h
drop_well u i (Some j) r o e fine h =
    cond_both (hopeless u r.stream j) (with_outcome false (with_waiting None r)) r (λ (x : Row). x.waits ≡ None → OffBus o i → Well x)
    (λ late none off. not-false _ (fine j e late))
    (λ _ none off. h none off)

pub drop_settled : (s : State) → NoneFails (drops s.now 0 s.rows) → Settled s → Settled (drop s)
unfolding drop
drop_settled s fine h =
    let u : ℕ = s.now in
    through s (drop s).rows (λ i. drop_row u) s.transit (row_each (drop_row u) s.rows) (λ i q e.
    drop_well u i q.waits q s.transit refl
    (λ j w late. at_drops (λ (o : Outcome). o.failure ≡ false) u 0 s.rows fine i q j e w late)
    (h i q e))

-- ---- a quiet unit, and the quiet schedule

module _ (before : Ready → Ready → Bool) where
  pub unit_settled : (s : State) → NoneFails (outcomes before false s) → Settled (release s) → Settled (unit before false s)
  unfolding unit outcomes mark tick
  unit_settled s fine h =
      let b : State = begun before false s in
      let x : State = leave b in
      let parts = all_parts (λ (o : Outcome). o.failure ≡ false) (arrivals b) (drops x.now 0 x.rows) fine in
      let begun-settled : Settled b = start_settled before (release s) h in
      drop_settled x parts.1 (leave_settled b parts.0 begun-settled b.transit refl)

  -- from a state whose every row has a frame that waits once its releases are made
  pub settled_on : (s : State) (m n : ℕ) → Settled (release (after before s m)) → Unfailing before s (m + suc n) → Settled (after before s (m + suc n))
  unfolding after
  settled_on s m zero h fine =
      let one : suc m ≡ m + 1 = omega arith in
      subst (λ k. Settled (after before s k)) one (unit_settled (after before s m) (fine m (omega arith)) h)
  settled_on s m (suc n) h fine =
      let k : ℕ = m + suc n in
      let more : suc k ≡ m + suc (suc n) = omega arith in
      let settled : Settled (after before s k) = settled_on s m n h (λ i l. fine i (omega arith)) in
      subst (λ i. Settled (after before s i)) more
      (unit_settled (after before s k) (fine k (omega arith)) (release_settled (after before s k) settled))
