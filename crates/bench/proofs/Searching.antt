-- The two searches over a machine that stands at a boundary: that they do not come to its last instant, and what their turns give.
-- Assumes nothing.
use Rattle.std.proofs.Common.{◌≡◌, ℕ, ◌+◌, ◌-◌, ◌*◌, ◌<◌, ◌≤◌, Bool, sym, ap, ◌∙◌, subst, add-mul, mul-le-mul, one-mul, arith}
use Rattle.model.specs.Ready.{Ready}
use Rattle.model.specs.Machine.{State}
use Rattle.model.specs.Tables.{histories}
use Rattle.model.specs.Tally.{Failure}
use Rattle.model.specs.Forecast.{table_of, histories_of, period_of, at_boundary, Fails, Holds}
use Rattle.laws.specs.Sound.{Sound}
use Rattle.promise.specs.Answers.{Walked, Returns}
use Rattle.promise.proofs.Search.{At, Hunting, Closing, boundary_now, at_first, at_later, at_next, at_histories, at_fails, hunt_first, hunt_found, hunt_on, hunt_anew, close_first, close_found, close_on}
use Rattle.promise.proofs.Found.{found_holds}
use Rattle.laws.proofs.Held.{held_sound}
use Rattle.bus.specs.Machines.{state_of}
use Rattle.bus.specs.declared.machine.Machine.{Machine}
use Rattle.bench.specs.Searches.{Searchable, machine_limit}

-- a turn of the first search: the histories of boundary i are kept, and the walker stands one boundary before boundary to
abbrev pub Turn : (Ready → Ready → Bool) → State → ℕ → ℕ → State → State → Type 0
Turn before x i to kept walker = (n : ℕ) × (i + (n + 1) ≡ to) × Hunting before x i n kept walker

-- a machine that can be searched from, with its hyper-period
module _ (before : Ready → Ready → Bool) (m : Machine) (period : ℕ) (from : Searchable (state_of m) period) where
  abbrev x : State
  x = state_of m

  h : Sound x
  h = held_sound x m.sound

  -- how far a walker may go on
  at_room : (i m : ℕ) (w : State) → At before x i w → i + m ≤ 3 * histories (table_of x) → w.now + m * period ≤ machine_limit
  at_room i m w a soon =
      let p : ℕ = period_of x in
      let few : histories (table_of x) ≤ 1048576 = from.few in
      let low : i + m ≤ 3145728 = omega arith in
      let most : (i + m) * p ≤ 3145728 * 36864 = mul-le-mul low from.short in
      let same : m * period ≡ m * p = ap (λ n. m * n) from.is in
      omega (arith, ap (λ (y : State). y.now) a.stands, boundary_now before x h from.on i, add-mul i m p, from.early)

  pub walk_room : (i : ℕ) (w : State) → At before x i w → i + 1 ≤ 3 * histories (table_of x) → w.now + period ≤ machine_limit
  walk_room i w a soon = omega (arith, at_room i 1 w a soon, one-mul period)

  pub at_on : (i : ℕ) (w v : State) → At before x i w → Walked before w period v → At before x (i + 1) v
  at_on i w v a b = at_next before x h from.on i w v a (subst (λ n. Walked before w n v) from.is b)

  -- a failure on the way is the first from here
  pub walk_fails : (i : ℕ) (w : State) → At before x i w → (f : Failure) → Fails before w f → Fails before x f
  walk_fails i w a f there = at_fails before x h from.on i w f a there

  pub at_far : (n : ℕ) (v : State) → Walked before x (n * period) v → At before x n v
  at_far n v b =
      subst (λ k. At before x k v) (omega arith)
      (at_later before x h from.on 0 n x v (at_first before x h from.on) (subst (λ p. Walked before x (n * p) v) from.is b))

  pub turn_first : Turn before x 0 1 x x
  turn_first = (0, omega arith, hunt_first before x h from.on)

  module _ (i to : ℕ) (kept walker : State) (turn : Turn before x i to kept walker) where
    pub turn_room : walker.now + period ≤ machine_limit
    turn_room = walk_room (i + turn.0) walker turn.2.there (omega (arith, turn.2.short))

    pub turn_fails : (f : Failure) → Fails before walker f → Fails before x f
    turn_fails = walk_fails (i + turn.0) walker turn.2.there

    module _ (v : State) (walked : Walked before walker period v) where
      reached : At before x (i + (turn.0 + 1)) v
      reached = subst (λ k. At before x k v) (omega arith) (at_on (i + turn.0) walker v turn.2.there walked)

      pub turn_found : histories_of kept ≡ histories_of v → Returns before x i (to - i) × (to ≤ 3 * histories (table_of x))
      turn_found e = (
        subst (λ n. Returns before x i n) (omega (arith, turn.1)) (hunt_found before x h from.on i turn.0 kept walker v turn.2 reached e),
        omega (arith, turn.1, turn.2.short),
      )

      module _ (other : histories_of kept ≡ histories_of v → ⊥) where
        pub turn_on : to ≤ 2 * i → Turn before x i (to + 1) kept v
        turn_on low = (turn.0 + 1, omega (arith, turn.1), hunt_on before x h from.on i turn.0 kept walker v turn.2 reached other (omega (arith, turn.1)))

        pub turn_anew : 2 * i < to → Turn before x to (to + 1) v v
        turn_anew over = (
          0,
          omega arith,
          subst (λ k. Hunting before x k 0 v v) turn.1 (hunt_anew before x h from.on i turn.0 kept walker v turn.2 reached other (omega (arith, turn.1))),
        )

  -- a turn of the second search
  pub pair_first : (i n : ℕ) (far : State) → Returns before x i n → Walked before x (n * period) far → Closing before x i n 0 x far
  pair_first i n far r walked = close_first before x h from.on i n far r (at_far n far walked)

  module _ (i n j : ℕ) (near far : State) (close : Closing before x i n j near far) where
    pub pair_found : histories_of near ≡ histories_of far → Holds before x j (j + n)
    pair_found e = found_holds before x h i j n close.returns (close_found before x h from.on i n j near far close e)

    pub pair_last : j ≡ i → Holds before x i (i + n)
    pair_last all = subst (λ k. Holds before x k (k + n)) all (pair_found (
        at_histories before x h from.on j near close.here
        ∙ subst (λ k. at_boundary before x k ≡ at_boundary before x (k + n)) (sym all) close.returns.again
        ∙ sym (at_histories before x h from.on (j + n) far close.there)))

    pub pair_on : (histories_of near ≡ histories_of far → ⊥) → (near' far' : State) → Walked before near period near' → Walked before far period far' → Closing before x i n (j + 1) near' far'
    pair_on other near' far' one two =
        close_on before x h from.on i n j near far close other near' far' (at_on j near near' close.here one) (at_on (j + n) far far' close.there two)
