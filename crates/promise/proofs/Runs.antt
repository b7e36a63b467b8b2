-- The quiet schedule as a run of quiet units: the same states and outcomes. Assumes nothing.
use Rattle.std.proofs.Common.{◌≡◌, ℕ, zero, suc, ◌+◌, ◌<◌, Bool, true, false, ◌⊎◌, List, [], ◌∷◌, ◌++◌, replicate, Some, None, sym, refl, ap, ◌∙◌, subst, inl, inr, append-nil, arith}
use Rattle.std.specs.List.{AllByRecursion, slice_get}
use Rattle.std.proofs.lemmas.Bool.{cases_lt}
use Rattle.model.specs.Ready.{Ready}
use Rattle.model.specs.Machine.{State, Outcome, unit, outcomes}
use Rattle.model.specs.Schedule.{run, ran, after, given}
use Rattle.model.specs.Tally.{Failure, first_failure}
use Rattle.model.specs.Forecast.{Fails}
use Rattle.promise.specs.Boundaries.{Unfailing}
use Rattle.promise.specs.Answers.{FirstOf}
use Rattle.promise.proofs.Drops.{all_parts}
use Rattle.promise.proofs.Further.{fails_later}
use Rattle.promise.proofs.Firsts.{Ahead, none_picked}
use Rattle.promise.proofs.Failures.{all_nth, given_at}

-- an element of two lists, one after the other, is of one of them
nth_parts : {X : Type 0} (xs ys : List X) (i : ℕ) (x : X) → slice_get (xs ++ ys) i ≡ Some x
    → ((k : ℕ) × (slice_get xs k ≡ Some x)) ⊎ ((k : ℕ) × (slice_get ys k ≡ Some x))
nth_parts [] ys i x e = inr (i, e)
nth_parts (y ∷ xs) ys zero x e = inl (0, e)
nth_parts (y ∷ xs) ys (suc i) x e = elim (nth_parts xs ys i x e) [ inl (k, at) ↦ inl (suc k, at) | inr later ↦ inr later ]

-- n quiet units
abbrev pub quiet : ℕ → List Bool
quiet n = replicate n false

module _ (before : Ready → Ready → Bool) where
  after_first : (s : State) (n : ℕ) → after before s (suc n) ≡ after before (unit before false s) n
  unfolding after
  after_first s zero = refl
  after_first s (suc n) = ap (unit before false) (after_first s n)

  pub run_quiet : (s : State) (n : ℕ) → run before s (quiet n) ≡ after before s n
  unfolding run after
  run_quiet s zero = refl
  run_quiet s (suc n) = run_quiet (unit before false s) n ∙ sym (after_first s n)

  -- what holds of all outcomes of the run holds of those of each unit
  pub all_ran : (Q : Outcome → Type 0) (s : State) (n : ℕ) → AllByRecursion Q (ran before s (quiet n)) → (k : ℕ) → k < n → AllByRecursion Q (given before s k)
  unfolding ran after
  all_ran Q s zero h k l = absurd (omega arith)
  all_ran Q s (suc n) h zero l = (all_parts Q (outcomes before false s) (ran before (unit before false s) (quiet n)) h).0
  all_ran Q s (suc n) h (suc k) l =
      subst (λ x. AllByRecursion Q (outcomes before false x)) (sym (after_first s k))
      (all_ran Q (unit before false s) n (all_parts Q (outcomes before false s) (ran before (unit before false s) (quiet n)) h).1 k (omega arith))

  -- an outcome of the run is one of a unit
  pub in_ran : (s : State) (n i : ℕ) (o : Outcome) → slice_get (ran before s (quiet n)) i ≡ Some o
      → (k : ℕ) × (k < n) × (j : ℕ) × (slice_get (given before s k) j ≡ Some o)
  unfolding ran after
  in_ran s zero i o e = absurd (let z : ◌≡◌ {A = ℕ} 0 1 = cc in omega arith)
  in_ran s (suc n) i o e = elim (nth_parts (outcomes before false s) (ran before (unit before false s) (quiet n)) i o e) [
    | inl (j, at) ↦ (0, omega arith, j, at)
    | inr (j, at) ↦
        let r = in_ran (unit before false s) n j o at in
        (suc r.0, omega (arith, r.1), r.2, ap (λ x. slice_get (outcomes before false x) r.2) (after_first s r.0) ∙ r.3)
  ]

  -- the first failure of a run of quiet units, if it has one, is that of the schedule
  pub ran_fails : (s : State) (n : ℕ) (f : Failure) → FirstOf (ran before s (quiet n)) f → Fails before s f
  ran_fails s n f p =
      let r = in_ran s n p.place p.outcome p.stands in
      let u : ℕ = r.0 in
      let low : u < n = r.1 in
      let when : f.instant ≡ s.now + u + 1 =
      p.instant ∙ all_nth (λ (o : Outcome). o.instant ≡ s.now + u + 1) (given before s u) r.2 p.outcome (given_at before s u) r.3 in
      record {
        is = record {
          units = u;
          place = r.2;
          outcome = p.outcome;
          given_there = r.3;
          failed = p.failed;
          slot = p.slot;
          frame = p.frame;
          instant = p.instant;
        };
        first = λ g there.
            let m : ℕ = there.units in
            let o : Outcome = there.outcome in
            elim (cases_lt m n) [
              | inl early ↦
                  let ahead : Ahead f o =
                  all_nth (λ (x : Outcome). x.failure ≡ true → Ahead f x) (given before s m) there.place o
                  (all_ran (λ (x : Outcome). x.failure ≡ true → Ahead f x) s n p.first m early) there.given_there there.failed in
                  elim ahead [
                    | inl less ↦ inl (omega (arith, less, there.instant))
                    | inr (same, slots) ↦ inr (omega (arith, same, there.instant), omega (arith, slots, there.slot))
                  ]
              | inr late ↦
                  let then : g.instant ≡ s.now + m + 1 =
                  there.instant ∙ all_nth (λ (x : Outcome). x.instant ≡ s.now + m + 1) (given before s m) there.place o (given_at before s m) there.given_there in
                  inl (omega (arith, when, then, low, late))
            ];
      }

  pub ran_unfailing : (s : State) (n : ℕ) → first_failure (ran before s (quiet n)) ≡ None → Unfailing before s n
  ran_unfailing s n e = all_ran (λ (o : Outcome). o.failure ≡ false) s n (none_picked (ran before s (quiet n)) e)

  -- and the first failure of the first unit that has one
  pub first_fails : (s : State) (n : ℕ) (f : Failure) → Unfailing before s n → FirstOf (given before s n) f → Fails before s f
  unfolding ran
  first_fails s n f fine p =
      let x : State = after before s n in
      fails_later before s n f fine (ran_fails x 1 f (subst (λ os. FirstOf os f) (sym (append-nil (outcomes before false x))) p))
