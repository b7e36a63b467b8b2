-- Counts of outcomes, and of what waits or is in transit, one step at a time. Assumes nothing.
use Rattle.std.proofs.Common.{◌≡◌, ℕ, zero, suc, ◌+◌, ◌/◌, ◌%◌, ◌<◌, ◌≤◌, Bool, true, false, cond, not, ◌&&◌, eqb, List, [], ◌∷◌, ◌++◌, Some, None, Option, sym, refl, ap, ◌∙◌, inl, inr, arith}
use Rattle.std.specs.Option.{option_map}
use Rattle.std.proofs.lemmas.Bool.{cond_both, cases_eq, eqb-true, eqb-false}
use Rattle.std.proofs.lemmas.Bool.Decides.{nat_tests}
use Rattle.model.specs.Streams.{Stream}
use Rattle.model.specs.Ready.{Ready}
use Rattle.model.specs.Tables.{Divides}
use Rattle.model.specs.Machine.{Row, Rows, Transit, State, Candidate, Outcome, born, with_waiting, with_outcome, each, in_slot, release_row, release, candidates, front, starting, start, mark, tick, leave, outcome_in, arrivals, begun, drop, outcome, hopeless, dropping, drop_row, dropped, drops}
use Rattle.laws.specs.Sound.{LawfulStream, row_at}
use Rattle.laws.specs.Units.{after_noise}
use Rattle.laws.specs.Runs.{one_if, told, waits_here, waits_in, sent_in, pending, released}
use Rattle.laws.proofs.Slots.{row_each, row_here, row_else}
use Rattle.laws.proofs.Leaving.{leave_none, leave_later, leave_then, begun_transit}
use Rattle.laws.proofs.Keeping.{WaitsIn, front_waits}
use Rattle.laws.proofs.Frames.{born_now, born_divides, frame_born}

pub told_append : (i j : ℕ) (xs ys : List Outcome) → told i j (xs ++ ys) ≡ told i j xs + told i j ys
unfolding told
told_append i j [] ys = omega arith
told_append i j (o ∷ xs) ys = omega (arith, told_append i j xs ys)

-- ---- releases

pub released_split : (lo mid hi : ℕ) (f : Stream) (j : ℕ) → lo ≤ mid → mid ≤ hi → released lo mid f j + released mid hi f j ≡ released lo hi f j
released_split lo mid hi f j l h = grind (arith, nat_tests)

pub released_by : (lo hi : ℕ) (f : Stream) (j : ℕ) → lo ≤ born f j → born f j < hi → released lo hi f j ≡ 1
released_by lo hi f j l h = grind (arith, nat_tests)

pub released_not : (lo hi : ℕ) (f : Stream) (j : ℕ) → hi ≤ born f j → released lo hi f j ≡ 0
released_not lo hi f j h = grind (arith, nat_tests)

released_one : (u : ℕ) (f : Stream) (j : ℕ) → born f j ≡ u → released u (u + 1) f j ≡ 1
released_one u f j e = released_by u (u + 1) f j (omega (arith, e)) (omega (arith, e))

released_zero : (u : ℕ) (f : Stream) (j : ℕ) → (born f j ≡ u → ⊥) → released u (u + 1) f j ≡ 0
released_zero u f j ne = grind (arith, nat_tests)

one_if_eq : (a b : ℕ) → a ≡ b → one_if (eqb a b) ≡ 1
one_if_eq a b e = grind (arith, nat_tests)

pub one_if_ne : (a b : ℕ) → (a ≡ b → ⊥) → one_if (eqb a b) ≡ 0
one_if_ne a b ne = grind (arith, nat_tests)

released_row : (u : ℕ) (r : Row) (j : ℕ) → LawfulStream r.stream → 1 ≤ j → (Divides r.stream.period u → r.waits ≡ None)
    → waits_here (release_row u r).waits j ≡ waits_here r.waits j + released u (u + 1) r.stream j
released_row u r j l some free =
    let f : Stream = r.stream in
    cond_both (eqb (u % f.period) 0) (with_waiting (Some (u / f.period + 1)) r) r
    (λ (q : Row). waits_here q.waits j ≡ waits_here r.waits j + released u (u + 1) f j)
    (λ e.
    let d : Divides f.period u = eqb-true _ _ e in
    let none : waits_here r.waits j ≡ 0 = ap (λ w. waits_here w j) (free d) in
    elim (cases_eq (u / f.period + 1) j) [
      | inl is ↦
          let born-is : born f j ≡ u = ap (born f) (sym is) ∙ born_now f u d in
          omega (arith, none, one_if_eq (u / f.period + 1) j is, released_one u f j born-is)
      | inr ne ↦
          omega (arith, none, one_if_ne (u / f.period + 1) j ne, released_zero u f j (λ b. ne (frame_born f u j l some b)))
    ])
    (λ e.
    let not-now : born f j ≡ u → ⊥ = λ b. eqb-false _ _ e (ap (λ n. n % f.period) (sym b) ∙ born_divides f j) in
    omega (arith, released_zero u f j not-now))

pub release_counts : (s : State) (i : ℕ) (r : Row) (j : ℕ) → row_at s.rows i ≡ Some r → LawfulStream r.stream → 1 ≤ j → (Divides r.stream.period s.now → r.waits ≡ None)
    → pending (release s) i j ≡ pending s i j + released s.now (s.now + 1) r.stream j
unfolding pending release
release_counts s i r j e l some free =
    let u : ℕ = s.now in
    let after : waits_in (row_at (each (release_row u) s.rows) i) j ≡ waits_here (release_row u r).waits j =
    ap (λ o. waits_in o j) (row_each (release_row u) s.rows i ∙ ap (option_map (release_row u)) e) in
    let was : waits_in (row_at s.rows i) j ≡ waits_here r.waits j = ap (λ o. waits_in o j) e in
    omega (arith, after, was, released_row u r j l some free)

-- ---- starts

pair_one : (k i n j : ℕ) → k ≡ i → one_if (eqb k i && eqb n j) ≡ one_if (eqb n j)
pair_one k i n j e = grind (arith, nat_tests)

pub pair_none : (k i n j : ℕ) → (k ≡ i → n ≡ j → ⊥) → one_if (eqb k i && eqb n j) ≡ 0
pair_none k i n j ne = grind (arith, nat_tests)

pair_zero : (k i n j : ℕ) → (k ≡ i → ⊥) → one_if (eqb k i && eqb n j) ≡ 0
pair_zero k i n j ne = pair_none k i n j (λ e _. ne e)

-- a frame that starts no longer waits, and is in transit
taking_counts : (s : State) (c : Candidate) (i j : ℕ) → s.transit ≡ None → WaitsIn s.now s.rows c → pending (starting None (Some c) s) i j ≡ pending s i j
unfolding pending
taking_counts s c i j idle p =
    let k : ℕ = c.shown.slot in
    let f : Row → Row = with_waiting None in
    let free : sent_in s.transit i j ≡ 0 = ap (λ o. sent_in o i j) idle in
    elim (cases_eq k i) [
      | inl e ↦
          let here : row_at s.rows i ≡ Some p.0 = ap (row_at s.rows) (sym e) ∙ p.1 in
          let was : waits_in (row_at s.rows i) j ≡ one_if (eqb c.frame j) =
          ap (λ o. waits_in o j) here ∙ ap (λ w. waits_here w j) p.2 in
          let after : waits_in (row_at (in_slot k f s.rows) i) j ≡ 0 =
          ap (λ n. waits_in (row_at (in_slot k f s.rows) n) j) (sym e) ∙ ap (λ o. waits_in o j) (row_here k f s.rows ∙ ap (option_map f) p.1) in
          omega (arith, free, was, after, pair_one k i c.frame j e)
      | inr ne ↦
          let same : waits_in (row_at (in_slot k f s.rows) i) j ≡ waits_in (row_at s.rows i) j =
          ap (λ o. waits_in o j) (row_else k f s.rows i ne) in
          omega (arith, free, same, pair_zero k i c.frame j ne)
    ]

starting_counts : (o : Option Transit) (d : Option Candidate) (s : State) (i j : ℕ) → s.transit ≡ o
    → ((c : Candidate) → d ≡ Some c → WaitsIn s.now s.rows c) → pending (starting o d s) i j ≡ pending s i j
starting_counts (Some t) d s i j e w = refl
starting_counts None None s i j e w = refl
starting_counts None (Some c) s i j e w = taking_counts s c i j e (w c refl)

module _ (before : Ready → Ready → Bool) where
  pub start_counts : (s : State) (i j : ℕ) → pending (start before s) i j ≡ pending s i j
  unfolding start
  start_counts s i j =
      starting_counts s.transit (front before (candidates s.now 0 s.rows)) s i j refl (front_waits before s)

-- ---- noise and the tick

sent_after_noise : (noisy : Bool) (o : Option Transit) (i j : ℕ) → sent_in (option_map (after_noise noisy) o) i j ≡ sent_in o i j
sent_after_noise noisy None i j = refl
sent_after_noise true (Some t) i j = refl
sent_after_noise false (Some t) i j = refl

pub begun_counts : (before : Ready → Ready → Bool) (noisy : Bool) (s : State) (i j : ℕ) → pending (begun before noisy s) i j ≡ pending (start before (release s)) i j
unfolding pending tick mark
begun_counts before noisy s i j =
    let o : Option Transit = (start before (release s)).transit in
    let same : sent_in (begun before noisy s).transit i j ≡ sent_in o i j =
    ap (λ x. sent_in x i j) (begun_transit before noisy s) ∙ sent_after_noise noisy o i j in
    omega (arith, same)

-- ---- step 5: what leaves has its outcome

outcome_waits : (k : ℕ) (met : Bool) (rows : Rows) (i j : ℕ) → waits_in (row_at (in_slot k (with_outcome met) rows) i) j ≡ waits_in (row_at rows i) j
outcome_waits k met rows i j =
    elim (cases_eq k i) [
      | inl e ↦
          ap (λ n. waits_in (row_at (in_slot k (with_outcome met) rows) n) j) (sym e)
          ∙ ap (λ o. waits_in o j) (row_here k (with_outcome met) rows) ∙ same (row_at rows k) ∙ ap (λ n. waits_in (row_at rows n) j) e
      | inr ne ↦ ap (λ o. waits_in o j) (row_else k (with_outcome met) rows i ne)
    ]
  where
    same : (o : Option Row) → waits_in (option_map (with_outcome met) o) j ≡ waits_in o j
    same None = refl
    same (Some r) = refl

pub leave_counts : (s : State) (i j : ℕ) → ((t : Transit) → s.transit ≡ Some t → (r : Row) × (row_at s.rows t.slot ≡ Some r))
    → (o : Option Transit) → s.transit ≡ o → told i j (arrivals s) + pending (leave s) i j ≡ pending s i j
unfolding told pending
leave_counts s i j occupied None e =
    let p = leave_none s e in
    omega (arith, ap (told i j) p.1, ap (λ x. pending x i j) p.0)
leave_counts s i j occupied (Some t) e =
    elim (cases_eq t.end s.now) [
      | inl then ↦
          let p = leave_then s t e then in
          let o = occupied t e in
          let F : Row → Outcome = outcome s.now t.slot t.frame (not t.marked) in
          let telling : told i j (arrivals s) ≡ one_if (eqb t.slot i && eqb t.frame j) + 0 =
          ap (told i j) (p.1 ∙ ap (λ x. outcome_in x F) o.1) in
          let was : sent_in s.transit i j ≡ one_if (eqb t.slot i && eqb t.frame j) = ap (λ x. sent_in x i j) e in
          omega (arith, telling, was, ap (λ x. pending x i j) p.0, outcome_waits t.slot (not t.marked) s.rows i j)
      | inr later ↦
          let p = leave_later s t e later in
          omega (arith, ap (told i j) p.1, ap (λ x. pending x i j) p.0)
    ]

-- ---- step 6: what is dropped has its outcome

-- 1 if frame j waits and is dropped
abbrev lost_here : ℕ → Stream → Option ℕ → ℕ → ℕ
lost_here u f None j = 0
lost_here u f (Some w) j = cond (hopeless u f w) (one_if (eqb w j)) 0

abbrev lost_in : ℕ → Option Row → ℕ → ℕ
lost_in u None j = 0
lost_in u (Some r) j = lost_here u r.stream r.waits j

told_if : (b : Bool) (i j : ℕ) (o : Outcome) → told i j (cond b (o ∷ []) []) ≡ cond b (one_if (eqb o.slot i && eqb o.frame j)) 0
unfolding told
told_if true i j o = omega arith
told_if false i j o = refl

told_here : (u i j : ℕ) (w : Option ℕ) (r : Row) → told i j (dropped u i w r) ≡ lost_here u r.stream w j
unfolding told
told_here u i j None r = refl
told_here u i j (Some n) r =
    told_if (hopeless u r.stream n) i j (outcome u i n false r)
    ∙ ap (λ x. cond (hopeless u r.stream n) x 0) (pair_one i i n j refl)

told_else : (u k i j : ℕ) (w : Option ℕ) (r : Row) → (k ≡ i → ⊥) → told i j (dropped u k w r) ≡ 0
unfolding told
told_else u k i j None r ne = refl
told_else u k i j (Some n) r ne =
    told_if (hopeless u r.stream n) i j (outcome u k n false r)
    ∙ ap (λ x. cond (hopeless u r.stream n) x 0) (pair_zero k i n j ne)
    ∙ cond_both (hopeless u r.stream n) 0 0 (λ x. x ≡ 0) (λ _. refl) (λ _. refl)

told_later : (u k i j : ℕ) (rows : Rows) → i < k → told i j (drops u k rows) ≡ 0
unfolding told drops
told_later u k i j [] l = refl
told_later u k i j (None ∷ rows) l = told_later u (suc k) i j rows (omega arith)
told_later u k i j (Some r ∷ rows) l =
    omega (
      arith,
      told_append i j (dropped u k r.waits r) (drops u (suc k) rows),
      told_else u k i j r.waits r (omega arith),
      told_later u (suc k) i j rows (omega arith),
    )

told_drops : (u k j : ℕ) (rows : Rows) (n : ℕ) → told (k + n) j (drops u k rows) ≡ lost_in u (row_at rows n) j
unfolding told drops
told_drops u k j [] n = refl
told_drops u k j (None ∷ rows) zero = told_later u (suc k) (k + 0) j rows (omega arith)
told_drops u k j (None ∷ rows) (suc n) =
    let at : k + suc n ≡ suc k + n = omega arith in
    ap (λ m. told m j (drops u (suc k) rows)) at ∙ told_drops u (suc k) j rows n
told_drops u k j (Some r ∷ rows) zero =
    let at : k + 0 ≡ k = omega arith in
    let here : told (k + 0) j (dropped u k r.waits r) ≡ lost_here u r.stream r.waits j =
    ap (λ m. told m j (dropped u k r.waits r)) at ∙ told_here u k j r.waits r in
    omega (
      arith,
      told_append (k + 0) j (dropped u k r.waits r) (drops u (suc k) rows),
      here,
      told_later u (suc k) (k + 0) j rows (omega arith),
    )
told_drops u k j (Some r ∷ rows) (suc n) =
    let at : k + suc n ≡ suc k + n = omega arith in
    let there : told (k + suc n) j (drops u (suc k) rows) ≡ lost_in u (row_at rows n) j =
    ap (λ m. told m j (drops u (suc k) rows)) at ∙ told_drops u (suc k) j rows n in
    omega (
      arith,
      told_append (k + suc n) j (dropped u k r.waits r) (drops u (suc k) rows),
      there,
      told_else u k (k + suc n) j r.waits r (omega arith),
    )

dropping_either : (b : Bool) (n j : ℕ) (r : Row) → r.waits ≡ Some n
    → cond b (one_if (eqb n j)) 0 + waits_here (cond b (with_outcome false (with_waiting None r)) r).waits j ≡ one_if (eqb n j)
dropping_either true n j r e = omega arith
dropping_either false n j r e = omega (arith, ap (λ w. waits_here w j) e)

dropping_counts : (u j : ℕ) (w : Option ℕ) (r : Row) → r.waits ≡ w → lost_here u r.stream w j + waits_here (dropping u w r).waits j ≡ waits_here w j
dropping_counts u j None r e = ap (λ w. 0 + waits_here w j) e
dropping_counts u j (Some n) r e = dropping_either (hopeless u r.stream n) n j r e

slot_drop_counts : (u j : ℕ) (o : Option Row) → lost_in u o j + waits_in (option_map (drop_row u) o) j ≡ waits_in o j
slot_drop_counts u j None = refl
slot_drop_counts u j (Some r) = dropping_counts u j r.waits r refl

pub drop_counts : (s : State) (i j : ℕ) → told i j (drops s.now 0 s.rows) + pending (drop s) i j ≡ pending s i j
unfolding pending drop
drop_counts s i j =
    let u : ℕ = s.now in
    let at : i ≡ 0 + i = omega arith in
    let telling : told i j (drops u 0 s.rows) ≡ lost_in u (row_at s.rows i) j =
    ap (λ n. told n j (drops u 0 s.rows)) at ∙ told_drops u 0 j s.rows i in
    omega (arith, telling, ap (λ o. waits_in o j) (row_each (drop_row u) s.rows i), slot_drop_counts u j (row_at s.rows i))
