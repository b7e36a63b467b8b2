-- The six steps of a unit, a unit and the quiet schedule of a state that is moved in time. Assumes nothing.
use Rattle.std.proofs.Common.{◌≡◌, ℕ, zero, suc, ◌+◌, Bool, true, false, cond, not, eqb, List, [], ◌∷◌, ◌++◌, map, get_or, Some, None, Option, sym, refl, ap, ◌∙◌, ap₂, arith}
use Rattle.std.specs.Option.{option_map}
use Rattle.std.proofs.lemmas.List.{map-append}
use Rattle.std.proofs.lemmas.Bool.Decides.{nat_tests}
use Rattle.model.specs.Ready.{Ready, waiting}
use Rattle.model.specs.Machine.{Row, Rows, Transit, State, Candidate, history_of, with_waiting, with_outcome, in_slot, release_row, release, candidate, joined, candidates, best, front, starting, start, hit, mark, tick, leaving, leave, outcome, outcome_in, arrival, arrivals, hopeless, drop_row, drop, dropped, drops, begun, unit, outcomes}
use Rattle.model.specs.Schedule.{after, given}
use Rattle.rounds.proofs.Shift.{later_row, later_rows, later_transit, later, later_candidate, later_outcome, Counted, Steady, Moves, Slots, Regular, cond_under, each_keeps, in_slot_keeps, each_later, in_slot_later, left_later, hopeless_later, released_later, dropping_later, released_keeps, waiting_none_keeps, outcome_keeps, dropping_keeps}

same_moment : (a b d : ℕ) → eqb (a + d) (b + d) ≡ eqb a b
same_moment a b d = grind (arith, nat_tests)

module _ (d : ℕ) (by : ℕ → ℕ) where
  -- ---- release

  release_later : (s : State) → Regular d by s → release (later d by s) ≡ later d by (release s)
  unfolding release
  release_later s h =
      ap (λ rows. record { now = s.now + d; rows = rows; transit = option_map (later_transit d by) s.transit })
      (each_later (Moves d by) by (release_row s.now) (release_row (s.now + d)) (λ i r p. released_later d (by i) r p s.now) 0 s.rows h)

  release_keeps : (s : State) → Regular d by s → Regular d by (release s)
  unfolding release
  release_keeps s h = each_keeps (Moves d by) (release_row s.now) (λ i r p. released_keeps d (by i) r p s.now) 0 s.rows h

  -- ---- start

  joined_later : (u i : ℕ) (r : Row) → Steady d (by i) r → (w : Option ℕ) → Counted w → (cs ds : List Candidate) → cs ≡ map (later_candidate by) ds
      → joined (option_map (candidate (u + d) i r) (option_map (λ j. j + by i) w)) cs ≡ map (later_candidate by) (joined (option_map (candidate u i r) w) ds)
  joined_later u i r p None c cs ds e = e
  joined_later u i r p (Some j) c cs ds e =
      ap₂ (λ left es. record { frame = j + by i; shown = waiting i r.stream (history_of r) left } ∷ es) (left_later d (by i) r p u j c) e

  candidates_later : (u i : ℕ) (rows : Rows) → Slots (Moves d by) i rows
      → candidates (u + d) i (later_rows by i rows) ≡ map (later_candidate by) (candidates u i rows)
  unfolding candidates
  candidates_later u i [] h = refl
  candidates_later u i (None ∷ rows) h = candidates_later u (suc i) rows h
  candidates_later u i (Some r ∷ rows) h =
      joined_later u i r h.0 r.waits h.0.counted (candidates (u + d) (suc i) (later_rows by (suc i) rows)) (candidates u (suc i) rows)
      (candidates_later u (suc i) rows h.1)

  module _ (before : Ready → Ready → Bool) where
    best_later : (c : Candidate) (cs : List Candidate) → best before (later_candidate by c) (map (later_candidate by) cs) ≡ later_candidate by (best before c cs)
    unfolding best
    best_later c [] = refl
    best_later c (x ∷ cs) =
        ap (λ y. best before y (map (later_candidate by) cs)) (cond_under (later_candidate by) (before x.shown c.shown) x c)
        ∙ best_later (cond (before x.shown c.shown) x c) cs

    front_later : (cs : List Candidate) → front before (map (later_candidate by) cs) ≡ option_map (later_candidate by) (front before cs)
    front_later [] = refl
    front_later (c ∷ cs) = ap Some (best_later c cs)

    starting_later : (t : Option Transit) (c : Option Candidate) (s : State)
        → starting (option_map (later_transit d by) t) (option_map (later_candidate by) c) (later d by s) ≡ later d by (starting t c s)
    starting_later (Some t) c s = refl
    starting_later None None s = refl
    starting_later None (Some c) s =
        let slot : ℕ = c.shown.slot in
        let end : s.now + d + c.shown.service ≡ s.now + c.shown.service + d = omega arith in
        ap₂ (λ rows e. record { now = s.now + d; rows = rows; transit = Some (record { slot = slot; frame = c.frame + by slot; end = e; marked = false }) })
        (in_slot_later by (with_waiting None) (λ b r. refl) 0 slot s.rows) end

    start_later : (s : State) → Regular d by s → start before (later d by s) ≡ later d by (start before s)
    unfolding start
    start_later s h =
        ap (λ c. starting (option_map (later_transit d by) s.transit) c (later d by s))
        (ap (front before) (candidates_later s.now 0 s.rows h) ∙ front_later (candidates s.now 0 s.rows))
        ∙ starting_later s.transit (front before (candidates s.now 0 s.rows)) s

    starting_keeps : (t : Option Transit) (c : Option Candidate) (s : State) → Regular d by s → Regular d by (starting t c s)
    starting_keeps (Some t) c s h = h
    starting_keeps None None s h = h
    starting_keeps None (Some c) s h =
        in_slot_keeps (Moves d by) (with_waiting None) (λ i r p. waiting_none_keeps d (by i) r p) 0 c.shown.slot s.rows h

    start_keeps : (s : State) → Regular d by s → Regular d by (start before s)
    unfolding start
    start_keeps s h = starting_keeps s.transit (front before (candidates s.now 0 s.rows)) s h

  -- ---- mark and tick

  marked_later : (noisy : Bool) (t : Option Transit)
      → cond noisy (option_map hit (option_map (later_transit d by) t)) (option_map (later_transit d by) t) ≡ option_map (later_transit d by) (cond noisy (option_map hit t) t)
  marked_later true None = refl
  marked_later true (Some t) = refl
  marked_later false t = refl

  mark_later : (noisy : Bool) (s : State) → mark noisy (later d by s) ≡ later d by (mark noisy s)
  unfolding mark
  mark_later noisy s = ap (λ t. record { now = s.now + d; rows = later_rows by 0 s.rows; transit = t }) (marked_later noisy s.transit)

  tick_later : (s : State) → tick (later d by s) ≡ later d by (tick s)
  unfolding tick
  tick_later s =
      let next : s.now + d + 1 ≡ s.now + 1 + d = omega arith in
      ap (λ u. record { now = u; rows = later_rows by 0 s.rows; transit = option_map (later_transit d by) s.transit }) next

  -- ---- leave

  leaving_later : (t : Option Transit) (s : State) → leaving (option_map (later_transit d by) t) (later d by s) ≡ later d by (leaving t s)
  leaving_later None s = refl
  leaving_later (Some t) s =
      let met : Bool = not t.marked in
      let gone : State = record { now = s.now; rows = in_slot t.slot (with_outcome met) s.rows; transit = None } in
      ap₂ (λ e rows. cond e (record { now = s.now + d; rows = rows; transit = None }) (later d by s))
      (same_moment t.end s.now d) (in_slot_later by (with_outcome met) (λ b r. refl) 0 t.slot s.rows)
      ∙ cond_under (later d by) (eqb t.end s.now) gone s

  leave_later : (s : State) → leave (later d by s) ≡ later d by (leave s)
  unfolding leave
  leave_later s = leaving_later s.transit s

  leaving_keeps : (t : Option Transit) (s : State) → Regular d by s → Regular d by (leaving t s)
  leaving_keeps None s h = h
  leaving_keeps (Some t) s h = either (eqb t.end s.now)
    where
      either : (e : Bool) → Regular d by (cond e (record { now = s.now; rows = in_slot t.slot (with_outcome (not t.marked)) s.rows; transit = None }) s)
      either true =
          in_slot_keeps (Moves d by) (with_outcome (not t.marked)) (λ i r p. outcome_keeps d (by i) r p (not t.marked)) 0 t.slot s.rows h
      either false = h

  leave_keeps : (s : State) → Regular d by s → Regular d by (leave s)
  unfolding leave
  leave_keeps s h = leaving_keeps s.transit s h

  -- the row of a slot, moved by some number
  row_later : (i n : ℕ) (rows : Rows) → (b : ℕ) × (get_or (later_rows by i rows) n None ≡ option_map (later_row b) (get_or rows n None))
  row_later i n [] = (0, refl)
  row_later i zero (o ∷ rows) = (by i, refl)
  row_later i (suc n) (o ∷ rows) = row_later (suc i) n rows

  outcome_in_later : (u i j b : ℕ) (met : Bool) (o : Option Row)
      → outcome_in (option_map (later_row b) o) (outcome (u + d) i (j + by i) met) ≡ map (later_outcome d by) (outcome_in o (outcome u i j met))
  outcome_in_later u i j b met None = refl
  outcome_in_later u i j b met (Some r) = refl

  arrival_later : (t : Option Transit) (s : State) → arrival (option_map (later_transit d by) t) (later d by s) ≡ map (later_outcome d by) (arrival t s)
  arrival_later None s = refl
  arrival_later (Some t) s =
      let met : Bool = not t.marked in
      let row = row_later 0 t.slot s.rows in
      ap₂ (λ e os. cond e os []) (same_moment t.end s.now d)
      (ap (λ o. outcome_in o (outcome (s.now + d) t.slot (t.frame + by t.slot) met)) row.1
      ∙ outcome_in_later s.now t.slot t.frame row.0 met (get_or s.rows t.slot None))
      ∙ cond_under (map (later_outcome d by)) (eqb t.end s.now) (outcome_in (get_or s.rows t.slot None) (outcome s.now t.slot t.frame met)) []

  arrivals_later : (s : State) → arrivals (later d by s) ≡ map (later_outcome d by) (arrivals s)
  unfolding arrivals
  arrivals_later s = arrival_later s.transit s

  -- ---- drop

  drop_later : (s : State) → Regular d by s → drop (later d by s) ≡ later d by (drop s)
  unfolding drop
  drop_later s h =
      ap (λ rows. record { now = s.now + d; rows = rows; transit = option_map (later_transit d by) s.transit })
      (each_later (Moves d by) by (drop_row s.now) (drop_row (s.now + d)) (λ i r p. dropping_later d (by i) r p s.now r.waits p.counted) 0 s.rows h)

  drop_keeps : (s : State) → Regular d by s → Regular d by (drop s)
  unfolding drop
  drop_keeps s h = each_keeps (Moves d by) (drop_row s.now) (λ i r p. dropping_keeps d (by i) r p s.now r.waits) 0 s.rows h

  dropped_later : (u i : ℕ) (r : Row) → Steady d (by i) r → (w : Option ℕ) → Counted w
      → dropped (u + d) i (option_map (λ j. j + by i) w) (later_row (by i) r) ≡ map (later_outcome d by) (dropped u i w r)
  dropped_later u i r p None c = refl
  dropped_later u i r p (Some j) c =
      ap (λ t. cond t (outcome (u + d) i (j + by i) false r ∷ []) []) (hopeless_later d (by i) r p u j c)
      ∙ cond_under (map (later_outcome d by)) (hopeless u r.stream j) (outcome u i j false r ∷ []) []

  drops_later : (u i : ℕ) (rows : Rows) → Slots (Moves d by) i rows
      → drops (u + d) i (later_rows by i rows) ≡ map (later_outcome d by) (drops u i rows)
  unfolding drops
  drops_later u i [] h = refl
  drops_later u i (None ∷ rows) h = drops_later u (suc i) rows h
  drops_later u i (Some r ∷ rows) h =
      ap₂ ◌++◌ (dropped_later u i r h.0 r.waits h.0.counted) (drops_later u (suc i) rows h.1)
      ∙ sym (map-append (later_outcome d by) (dropped u i r.waits r) (drops u (suc i) rows))

  -- ---- a unit, and the quiet schedule

  module _ (before : Ready → Ready → Bool) where
    begun_later : (noisy : Bool) (s : State) → Regular d by s → begun before noisy (later d by s) ≡ later d by (begun before noisy s)
    begun_later noisy s h =
        ap (λ x. tick (mark noisy (start before x))) (release_later s h)
        ∙ ap (λ x. tick (mark noisy x)) (start_later before (release s) (release_keeps s h))
        ∙ ap tick (mark_later noisy (start before (release s)))
        ∙ tick_later (mark noisy (start before (release s)))

    begun_keeps : (noisy : Bool) (s : State) → Regular d by s → Regular d by (begun before noisy s)
    unfolding mark tick
    begun_keeps noisy s h = start_keeps before (release s) (release_keeps s h)

    pub unit_later : (noisy : Bool) (s : State) → Regular d by s → unit before noisy (later d by s) ≡ later d by (unit before noisy s)
    unfolding unit
    unit_later noisy s h =
        let x : State = begun before noisy s in
        ap (λ y. drop (leave y)) (begun_later noisy s h) ∙ ap drop (leave_later x) ∙ drop_later (leave x) (leave_keeps x (begun_keeps noisy s h))

    pub unit_keeps : (noisy : Bool) (s : State) → Regular d by s → Regular d by (unit before noisy s)
    unfolding unit
    unit_keeps noisy s h =
        let x : State = begun before noisy s in
        drop_keeps (leave x) (leave_keeps x (begun_keeps noisy s h))

    pub outcomes_later : (noisy : Bool) (s : State) → Regular d by s → outcomes before noisy (later d by s) ≡ map (later_outcome d by) (outcomes before noisy s)
    unfolding outcomes
    outcomes_later noisy s h =
        let x : State = begun before noisy s in
        let gone : State = leave x in
        ap (λ y. arrivals y ++ drops (leave y).now 0 (leave y).rows) (begun_later noisy s h)
        ∙ ap (λ y. arrivals (later d by x) ++ drops y.now 0 y.rows) (leave_later x)
        ∙ ap₂ ◌++◌ (arrivals_later x) (drops_later gone.now 0 gone.rows (leave_keeps x (begun_keeps noisy s h)))
        ∙ sym (map-append (later_outcome d by) (arrivals x) (drops gone.now 0 gone.rows))

    pub after_keeps : (s : State) (n : ℕ) → Regular d by s → Regular d by (after before s n)
    unfolding after
    after_keeps s zero h = h
    after_keeps s (suc n) h = unit_keeps false (after before s n) (after_keeps s n h)

    pub after_later : (s : State) (n : ℕ) → Regular d by s → after before (later d by s) n ≡ later d by (after before s n)
    unfolding after
    after_later s zero h = refl
    after_later s (suc n) h = ap (unit before false) (after_later s n h) ∙ unit_later false (after before s n) (after_keeps s n h)

    pub given_later : (s : State) (n : ℕ) → Regular d by s → given before (later d by s) n ≡ map (later_outcome d by) (given before s n)
    given_later s n h = ap (outcomes before false) (after_later s n h) ∙ outcomes_later false (after before s n) (after_keeps s n h)
