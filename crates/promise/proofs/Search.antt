-- Two searches over the boundaries of the quiet schedule from an idle instant: what they keep from turn to turn, and what they find.
-- The first keeps the histories of one boundary and walks on from it, twice as far each time, until they stand again. The second walks
-- from two boundaries as far apart as that, until their histories agree. Assumes nothing.
use Rattle.std.proofs.Common.{◌≡◌, ℕ, ◌+◌, ◌-◌, ◌*◌, ◌%◌, ◌<◌, ◌≤◌, Bool, sym, ap, ◌∙◌, subst, inl, inr, add-mul, one-mul, arith}
use native.Mathlib.Nat.{mod_self}
use Rattle.std.proofs.lemmas.Bool.{cases_lt, cases_eq}
use Rattle.binomial.proofs.Sums.{at_least_positive}
use Rattle.model.specs.Tables.{Divides, histories, passing_count}
use Rattle.model.specs.Ready.{Ready}
use Rattle.model.specs.Machine.{State}
use Rattle.model.specs.Schedule.{after}
use Rattle.model.specs.Tally.{Failure}
use Rattle.model.specs.Forecast.{table_of, histories_of, period_of, units_to, at_boundary, Fails}
use Rattle.model.proofs.Counts.{histories_positive}
use Rattle.laws.specs.Sound.{Sound, LawfulStream}
use Rattle.rounds.proofs.Returns.{after_more}
use Rattle.promise.specs.Boundaries.{Unfailing, boundary, AgainWithin}
use Rattle.promise.specs.Answers.{Walked, Returns, Begins}
use Rattle.promise.proofs.Boundaries.{every_from_rows, units_are}
use Rattle.promise.proofs.Passing.{units_rise}
use Rattle.promise.proofs.Schedules.{after_now}
use Rattle.promise.proofs.Further.{unfailing_more, fails_later}
use Rattle.promise.proofs.Found.{returns_within}

-- a sound state has a history that passes for each stream
pub some_histories : (s : State) → Sound s → 1 ≤ histories (table_of s)
some_histories s h =
    histories_positive (table_of s) (every_from_rows (λ f. 1 ≤ passing_count f) s.rows (λ i r e.
    let l : LawfulStream r.stream = (h.rows i r e).lawful in
    at_least_positive r.stream.history.k r.stream.history.m l.required_most))

-- a state at a boundary of its own schedule
module _ (x : State) (on : Divides (period_of x) x.now) where
  units_none : units_to x 0 ≡ 0
  unfolding units_to
  units_none =
      let p : ℕ = period_of x in
      let whole : p - x.now % p ≡ p = omega (arith, on) in
      omega (arith, ap (λ n. n % p) whole, mod_self p)

  pub units_at : (i : ℕ) → units_to x i ≡ i * period_of x
  units_at i = omega (arith, units_are x i, units_none)

-- ---- what the searches keep

module _ (before : Ready → Ready → Bool) (x : State) where
  -- a walker at boundary i, with no failure behind it
  abbrev pub At : ℕ → State → Type 0
  At i w = Walked before x (units_to x i) w

  -- the histories kept are those of boundary i; the walker has come to boundary i + n, and has not met them again
  pub record Hunting (i n : ℕ) (kept walker : State) : Type 0 where
    pub from : At i kept
    pub there : At (i + n) walker
    pub low : n ≤ i
    pub near : i < 2 * histories (table_of x)
    pub short : i + n < 3 * histories (table_of x)
    pub fresh : (step : ℕ) → 0 < step → step ≤ n → at_boundary before x i ≡ at_boundary before x (i + step) → ⊥

  -- two walkers stand at boundaries j and j + n, and the histories of no earlier boundary stand again n boundaries later
  pub record Closing (i n j : ℕ) (near far : State) : Type 0 where
    pub returns : Returns before x i n
    pub here : At j near
    pub there : At (j + n) far
    pub early : j ≤ i
    pub none : (k : ℕ) → k < j → at_boundary before x k ≡ at_boundary before x (k + n) → ⊥

-- ---- one boundary after the other

module _ (before : Ready → Ready → Bool) (x : State) (h : Sound x) (on : Divides (period_of x) x.now) where
  pub boundary_here : boundary before x 0 ≡ x
  unfolding after
  boundary_here = ap (after before x) (units_none x on)

  -- how far boundary i lies
  pub boundary_now : (i : ℕ) → (boundary before x i).now ≡ x.now + i * period_of x
  boundary_now i = omega (arith, after_now before x (units_to x i), units_at x on i)

  pub at_first : At before x 0 x
  at_first = record { stands = sym boundary_here; fine = λ k l. absurd (omega (arith, units_none x on)) }

  -- n boundaries on
  pub at_later : (i n : ℕ) (w v : State) → At before x i w → Walked before w (n * period_of x) v → At before x (i + n) v
  at_later i n w v a b =
      let p : ℕ = period_of x in
      let far : units_to x (i + n) ≡ units_to x i + n * p = omega (arith, units_are x (i + n), units_are x i, add-mul i n p) in
      record {
        stands = b.stands ∙ ap (λ y. after before y (n * p)) a.stands ∙ sym (ap (after before x) far ∙ after_more before x (units_to x i) (n * p));
        fine = subst (Unfailing before x) (sym far) (unfailing_more before x (units_to x i) (n * p) a.fine (subst (λ y. Unfailing before y (n * p)) a.stands b.fine));
      }

  -- the next boundary
  pub at_next : (i : ℕ) (w v : State) → At before x i w → Walked before w (period_of x) v → At before x (i + 1) v
  at_next i w v a b = at_later i 1 w v a (subst (λ n. Walked before w n v) (sym (one-mul (period_of x))) b)

  -- a failure from there is the first from here
  pub at_fails : (i : ℕ) (w : State) (f : Failure) → At before x i w → Fails before w f → Fails before x f
  at_fails i w f a there = fails_later before x (units_to x i) f a.fine (subst (λ y. Fails before y f) a.stands there)

  pub at_histories : (i : ℕ) (w : State) → At before x i w → histories_of w ≡ at_boundary before x i
  unfolding at_boundary
  at_histories i w a = ap histories_of a.stands

  -- ---- the first search

  pub hunt_first : Hunting before x 0 0 x x
  hunt_first = record {
    from = at_first;
    there = at_first;
    low = omega arith;
    near = omega (arith, some_histories x h);
    short = omega (arith, some_histories x h);
    fresh = λ step some le e. omega arith;
  }

  -- one boundary on
  module _ (i n : ℕ) (kept walker v : State) (hunt : Hunting before x i n kept walker) (there : At before x (i + (n + 1)) v) where
    pub hunt_found : histories_of kept ≡ histories_of v → Returns before x i (n + 1)
    hunt_found e = record {
      forward = omega arith;
      again = sym (at_histories i kept hunt.from) ∙ e ∙ at_histories (i + (n + 1)) v there;
      no_sooner = λ step some less. hunt.fresh step some (omega arith);
      unfailing = there.fine;
    }

    module _ (other : histories_of kept ≡ histories_of v → ⊥) where
      fresher : (step : ℕ) → 0 < step → step ≤ n + 1 → at_boundary before x i ≡ at_boundary before x (i + step) → ⊥
      fresher step some le e = elim (cases_eq step (n + 1)) [
        | inl same ↦
            other (at_histories i kept hunt.from ∙ e ∙ ap (λ k. at_boundary before x (i + k)) same ∙ sym (at_histories (i + (n + 1)) v there))
        | inr less ↦ hunt.fresh step some (omega arith) e
      ]

      -- from boundary N on the histories stand again within N boundaries
      late : histories (table_of x) ≤ i → n + 1 < histories (table_of x)
      late far =
          let within : AgainWithin before x i =
          returns_within before x h (λ k l. there.fine k (omega (arith, units_rise x (histories (table_of x) + 1) (i + (n + 1)) (omega arith)))) i far in
          let step : ℕ = within.step in
          let within-n : step ≤ histories (table_of x) = within.within in
          elim (cases_lt (n + 1) step) [
            | inl less ↦ omega arith
            | inr le ↦ absurd (fresher step within.forward le within.again)
          ]

      pub hunt_on : n + 1 ≤ i → Hunting before x i (n + 1) kept v
      hunt_on low = record {
        from = hunt.from;
        there = there;
        low = low;
        near = hunt.near;
        short = elim (cases_lt i (histories (table_of x))) [
          | inl early ↦ omega arith
          | inr far ↦ omega (arith, late far, hunt.near)
        ];
        fresh = fresher;
      }

      pub hunt_anew : i < n + 1 → Hunting before x (i + (n + 1)) 0 v v
      hunt_anew over =
          let low : n ≤ i = hunt.low in
          let early : i < histories (table_of x) = elim (cases_lt i (histories (table_of x))) [
            | inl early ↦ early
            | inr far ↦ absurd (omega (arith, late far))
          ] in
          record {
            from = there;
            there = subst (λ k. At before x k v) (omega arith) there;
            low = omega arith;
            near = omega arith;
            short = omega arith;
            fresh = λ step some le e. omega arith;
          }

  -- ---- the second search

  pub close_first : (i n : ℕ) (far : State) → Returns before x i n → At before x n far → Closing before x i n 0 x far
  close_first i n far r there = record {
    returns = r;
    here = at_first;
    there = subst (λ k. At before x k far) (omega arith) there;
    early = omega arith;
    none = λ k l e. omega arith;
  }

  module _ (i n j : ℕ) (near far : State) (close : Closing before x i n j near far) where
    pub close_found : histories_of near ≡ histories_of far → Begins before x j n
    close_found e = record {
      again = sym (at_histories j near close.here) ∙ e ∙ at_histories (j + n) far close.there;
      no_earlier = close.none;
    }

    module _ (other : histories_of near ≡ histories_of far → ⊥) where
      unlike : at_boundary before x j ≡ at_boundary before x (j + n) → ⊥
      unlike e = other (at_histories j near close.here ∙ e ∙ sym (at_histories (j + n) far close.there))

      pub close_earlier : j < i
      close_earlier = elim (cases_lt j i) [
        | inl less ↦ less
        | inr le ↦
            let low : j ≤ i = close.early in
            let same : i ≡ j = omega arith in
            absurd (unlike (subst (λ k. at_boundary before x k ≡ at_boundary before x (k + n)) same close.returns.again))
      ]

      pub close_on : (near' far' : State) → At before x (j + 1) near' → At before x (j + n + 1) far' → Closing before x i n (j + 1) near' far'
      close_on near' far' here there = record {
        returns = close.returns;
        here = here;
        there = subst (λ k. At before x k far') (omega arith) there;
        early = omega (arith, close_earlier);
        none = λ k l e. elim (cases_eq k j) [
          | inl same ↦ unlike (subst (λ k. at_boundary before x k ≡ at_boundary before x (k + n)) same e)
          | inr ne ↦ close.none k (omega arith) e
        ];
      }
