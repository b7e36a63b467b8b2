-- A schedule that is idle at each multiple of a common multiple p of the periods: its histories there tell what follows. Assumes nothing.
use Rattle.std.proofs.Common.{◌≡◌, ℕ, zero, suc, ◌+◌, ◌-◌, ◌*◌, ◌<◌, ◌≤◌, Bool, false, [], ◌∷◌, Some, None, sym, ap, ◌∙◌, inl, inr, add-zero, add-suc, add-mul, one-mul, arith}
use native.Mathlib.Nat.{mul-mod_left}
use Rattle.std.proofs.lemmas.Bool.{cases_lt}
use Rattle.model.specs.Streams.{Stream}
use Rattle.model.specs.Tables.{Table, Divides, Every, Common}
use Rattle.model.specs.Ready.{Ready}
use Rattle.model.specs.Machine.{State, unit}
use Rattle.model.specs.Schedule.{after}
use Rattle.model.proofs.Multiples.{divides_trans}
use Rattle.rounds.specs.Passing.{Bits}
use Rattle.rounds.specs.Rounds.{Told}
use Rattle.rounds.specs.Boundaries.{bits_of, Idle, Agrees}
use Rattle.rounds.proofs.Boundaries.{same_again}

-- a property of every stream that has another one's
every_like : (P Q : Stream → Type 0) → ((s : Stream) → P s → Q s) → (t : Table) → Every P t → Every Q t
every_like P Q like [] h = tt
every_like P Q like (None ∷ t) h = every_like P Q like t h
every_like P Q like (Some s ∷ t) h = (like s h.0, every_like P Q like t h.1)

-- periods that divide p divide its multiples
pub common_multiple : (t : Table) (n p : ℕ) → Common t p → Common t (n * p)
common_multiple t n p h =
    every_like (λ s. Divides s.period p) (λ s. Divides s.period (n * p)) (λ s k. divides_trans s.period p (n * p) k (mul-mod_left n p)) t h

-- the schedule goes on from where it stands
pub after_more : (before : Ready → Ready → Bool) (s : State) (m n : ℕ) → after before s (m + n) ≡ after before (after before s m) n
unfolding after
after_more before s m zero = ap (after before s) (add-zero m)
after_more before s m (suc n) = ap (after before s) (add-suc m n) ∙ ap (unit before false) (after_more before s m n)

-- the schedule from s is idle with the table t after each p units, and all periods divide p
pub record Returning (before : Ready → Ready → Bool) (t : Table) (p : ℕ) (s : State) : Type 0 where
  pub positive : Every (λ x. 0 < x.period) t
  pub common : Common t p
  pub idle : (i : ℕ) → Idle t (after before s (i * p))
  pub instant : (i : ℕ) → (after before s (i * p)).now ≡ s.now + i * p

-- the histories after i rounds of p units
abbrev pub bits_after : (Ready → Ready → Bool) → ℕ → State → ℕ → Bits
bits_after before p s i = bits_of (after before s (i * p)).rows

module _ (before : Ready → Ready → Bool) (t : Table) (p : ℕ) (s : State) (returning : Returning before t p s) where
  -- rounds that start with equal histories agree in each unit
  pub rounds_agree : (i j : ℕ) → i ≤ j → bits_after before p s i ≡ bits_after before p s j
      → (n : ℕ) → Agrees before ((j - i) * p) (after before s (i * p)) (after before s (j * p)) n
  rounds_agree i j le e n =
      let whole : i + (j - i) ≡ j = omega arith in
      same_again t ((j - i) * p) (after before s (i * p)) (after before s (j * p)) (record {
        positive = returning.positive;
        common = common_multiple t (j - i) p returning.common;
        first = returning.idle i;
        second = returning.idle j;
        apart = omega (arith, returning.instant i, returning.instant j, ap (λ x. x * p) whole, add-mul i (j - i) p);
        bits = sym e;
      }) before n

  next_round : (i : ℕ) → bits_after before p s (i + 1) ≡ bits_of (after before (after before s (i * p)) p).rows
  next_round i =
      let more : (i + 1) * p ≡ i * p + p = omega (arith, add-mul i 1 p, one-mul p) in
      ap (λ n. bits_of (after before s n).rows) more ∙ ap (λ x. bits_of x.rows) (after_more before s (i * p) p)

  -- the histories at the start of a round tell those at its end
  pub rounds_told : Told (bits_after before p s)
  rounds_told i j e = elim (cases_lt j i) [
    | inl less ↦ next_round i ∙ (rounds_agree j i (omega arith) (sym e) p).bits ∙ sym (next_round j)
    | inr le ↦ next_round i ∙ sym (rounds_agree i j le e p).bits ∙ sym (next_round j)
  ]
