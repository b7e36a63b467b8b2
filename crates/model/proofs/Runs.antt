-- Runs of equal units, one unit longer; and how many outcomes a unit can give. Assumes nothing.
use Rattle.std.proofs.Common.{◌≡◌, ℕ, zero, suc, ◌+◌, ◌*◌, ◌≤◌, Bool, eqb, List, [], ◌∷◌, ◌++◌, length, get_or, replicate, Some, None, Option, sym, refl, ap, ◌∙◌, append_assoc, append-nil, arith, length-append, length-set}
use lib.ListN.{length-map}
use Rattle.std.proofs.lemmas.Bool.{cond_both}
use Rattle.model.specs.Ready.{Ready}
use Rattle.model.specs.Machine.{Row, Rows, Transit, State, Outcome, Candidate, unit, outcomes, begun, leave, leaving, arrivals, arrival, outcome_in, hopeless, dropped, drops, drop, tick, mark, start, starting, release}
use Rattle.model.specs.Schedule.{run, ran}

module _ (before : Ready → Ready → Bool) (noisy : Bool) where
  pub run_more : (s : State) (n : ℕ) → run before s (replicate (suc n) noisy) ≡ unit before noisy (run before s (replicate n noisy))
  unfolding run
  run_more s zero = refl
  run_more s (suc n) = run_more (unit before noisy s) n

  pub ran_more :
      (s : State) (n : ℕ)
      → ran before s (replicate (suc n) noisy) ≡ ran before s (replicate n noisy) ++ outcomes before noisy (run before s (replicate n noisy))
  unfolding run ran
  ran_more s zero = append-nil (outcomes before noisy s)
  ran_more s (suc n) =
      ap (λ os. outcomes before noisy s ++ os) (ran_more (unit before noisy s) n) ∙ sym (append_assoc (outcomes before noisy s) _ _)

-- ---- outcomes of a unit

dropped_few : (u i : ℕ) (w : Option ℕ) (r : Row) → length (dropped u i w r) ≤ 1
dropped_few u i None r = omega arith
dropped_few u i (Some j) r =
    cond_both (hopeless u r.stream j) _ _ (λ (os : List Outcome). length os ≤ 1) (λ _. omega arith) (λ _. omega arith)

drops_few : (u i : ℕ) (rows : Rows) → length (drops u i rows) ≤ length rows
unfolding drops
drops_few u i [] = omega arith
drops_few u i (None ∷ rows) = omega (arith, drops_few u (suc i) rows)
drops_few u i (Some r ∷ rows) =
    omega (arith, length-append (dropped u i r.waits r) (drops u (suc i) rows), dropped_few u i r.waits r, drops_few u (suc i) rows)

found_few : (o : Option Row) (f : Row → Outcome) → length (outcome_in o f) ≤ 1
found_few None f = omega arith
found_few (Some r) f = omega arith

arrival_few : (t : Option Transit) (s : State) → length (arrival t s) ≤ 1
arrival_few None s = omega arith
arrival_few (Some t) s =
    cond_both (eqb t.end s.now) _ _ (λ (os : List Outcome). length os ≤ 1)
    (λ _. found_few (get_or s.rows t.slot None) _) (λ _. omega arith)

-- ---- the slots stay as many as they are

starting_slots : (t : Option Transit) (c : Option Candidate) (s : State) → length (starting t c s).rows ≡ length s.rows
starting_slots (Some t) c s = refl
starting_slots None None s = refl
starting_slots None (Some c) s = length-set s.rows _ _

leaving_slots : (t : Option Transit) (s : State) → length (leaving t s).rows ≡ length s.rows
leaving_slots None s = refl
leaving_slots (Some t) s =
    cond_both (eqb t.end s.now) _ _ (λ (x : State). length x.rows ≡ length s.rows)
    (λ _. length-set s.rows _ _) (λ _. refl)

module _ (before : Ready → Ready → Bool) where
  begun_slots : (noisy : Bool) (s : State) → length (begun before noisy s).rows ≡ length s.rows
  unfolding release start mark tick
  begun_slots noisy s = starting_slots s.transit _ (release s) ∙ length-map s.rows _

  left_slots : (noisy : Bool) (s : State) → length (leave (begun before noisy s)).rows ≡ length s.rows
  unfolding leave
  left_slots noisy s = leaving_slots (begun before noisy s).transit (begun before noisy s) ∙ begun_slots noisy s

  unit_slots : (noisy : Bool) (s : State) → length (unit before noisy s).rows ≡ length s.rows
  unfolding unit drop
  unit_slots noisy s = length-map (leave (begun before noisy s)).rows _ ∙ left_slots noisy s

  outcomes_few : (noisy : Bool) (s : State) → length (outcomes before noisy s) ≤ length s.rows + 1
  unfolding outcomes arrivals
  outcomes_few noisy s =
      let b : State = begun before noisy s in
      omega (
        arith,
        length-append (arrivals b) (drops (leave b).now 0 (leave b).rows),
        arrival_few b.transit b,
        drops_few (leave b).now 0 (leave b).rows,
        left_slots noisy s,
      )

  -- a unit of a table of eight slots gives at most nine outcomes
  pub ran_few : (s : State) (noise : List Bool) → length s.rows ≡ 8 → length (ran before s noise) ≤ 9 * length noise
  unfolding ran
  ran_few s [] eight = omega arith
  ran_few s (noisy ∷ noise) eight =
      omega (
        arith,
        length-append (outcomes before noisy s) (ran before (unit before noisy s) noise),
        outcomes_few noisy s,
        ran_few (unit before noisy s) noise (unit_slots noisy s ∙ eight),
      )
