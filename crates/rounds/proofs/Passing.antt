-- The lists of passing histories of a table as numbers below N, different ones as different numbers. Assumes nothing.
use Rattle.std.proofs.Common.{◌≡◌, ℕ, zero, suc, ◌+◌, ◌*◌, ◌/◌, ◌%◌, ◌^◌, ◌<◌, ◌≤◌, Bool, true, cond, [], ◌∷◌, Some, None, sym, refl, ap, ◌∙◌, ap₂, inl, inr, arith}
use lib.Arith.{digits_lt, digits_div, digits_mod}
use Rattle.std.proofs.lemmas.Bool.{cases_eq, cases_order, cond-true}
use Rattle.binomial.specs.Choose.{count}
use Rattle.firm.specs.Histories.{passes}
use Rattle.firm.proofs.Passing.{passing_counted}
use Rattle.model.specs.Streams.{Stream}
use Rattle.model.specs.Tables.{Table, histories, passing_count}
use Rattle.rounds.specs.Passing.{Bits, Passes, Passing, Twice}
use Rattle.rounds.proofs.Pigeonhole.{pigeonhole}

-- ---- the rank of a number that passes a test: how many below it do

module _ (test : ℕ → Bool) where
  rank_rises : (a b : ℕ) → a < b → test a ≡ true → count test a < count test b
  unfolding count
  rank_rises a zero l p = absurd (omega arith)
  rank_rises a (suc b) l p = elim (cases_eq a b) [
    | inl e ↦
        let last : ◌≡◌ {A = ℕ} (cond (test b) 1 0) 1 = cond-true (test b) 1 0 (ap test (sym e) ∙ p) in
        let same : count test a ≡ count test b = ap (count test) e in
        omega arith
    | inr other ↦ omega (arith, rank_rises a b (omega arith) p)
  ]

  rank_tells : (a b : ℕ) → test a ≡ true → test b ≡ true → count test a ≡ count test b → a ≡ b
  rank_tells a b p q e = elim (cases_order a b) [
    | inl same ↦ same
    | inr (inl low) ↦ absurd (omega (arith, rank_rises a b low p))
    | inr (inr high) ↦ absurd (omega (arith, rank_rises b a high q))
  ]

-- ---- of a stream

rank : Stream → ℕ → ℕ
rank s b = count (passes s.history.m s.history.k) b

rank_low : (s : Stream) (b : ℕ) → Passes s b → rank s b < passing_count s
unfolding rank
rank_low s b p =
    let m : ℕ = s.history.m in
    let k : ℕ = s.history.k in
    omega (arith, rank_rises (passes m k) b (2 ^ k) p.fits p.passed, passing_counted m k)

rank_same : (s : Stream) (a b : ℕ) → Passes s a → Passes s b → rank s a ≡ rank s b → a ≡ b
unfolding rank
rank_same s a b p q e = rank_tells (passes s.history.m s.history.k) a b p.passed q.passed e

-- ---- of a table

-- the ranks of its histories, as the digits of a number
code : Table → Bits → ℕ
code [] bs = 0
code (o ∷ t) [] = 0
code (None ∷ t) (b ∷ bs) = code t bs
code (Some s ∷ t) (None ∷ bs) = 0
code (Some s ∷ t) (Some b ∷ bs) = rank s b * histories t + code t bs

code_low : (t : Table) (bs : Bits) → Passing t bs → code t bs < histories t
unfolding code histories
code_low [] [] p = omega arith
code_low [] (b ∷ bs) p = absurd p
code_low (None ∷ t) [] p = absurd p
code_low (Some s ∷ t) [] p = absurd p
code_low (None ∷ t) (None ∷ bs) p = code_low t bs p
code_low (None ∷ t) (Some b ∷ bs) p = absurd p
code_low (Some s ∷ t) (None ∷ bs) p = absurd p
code_low (Some s ∷ t) (Some b ∷ bs) p = digits_lt (rank_low s b p.0) (code_low t bs p.1)

-- two digits of one number are equal, and so are what follows them
high_same : (c q p r s : ℕ) → r < c → s < c → q * c + r ≡ p * c + s → q ≡ p
high_same c q p r s lr ls e = sym (digits_div q lr) ∙ ap (λ n. n / c) e ∙ digits_div p ls

low_same : (c q p r s : ℕ) → r < c → s < c → q * c + r ≡ p * c + s → r ≡ s
low_same c q p r s lr ls e = sym (digits_mod q lr) ∙ ap (λ n. n % c) e ∙ digits_mod p ls

code_same : (t : Table) (xs bs : Bits) → Passing t xs → Passing t bs → code t xs ≡ code t bs → xs ≡ bs
unfolding code
code_same [] [] [] p q e = refl
code_same [] [] (b ∷ bs) p q e = absurd q
code_same [] (a ∷ xs) bs p q e = absurd p
code_same (None ∷ t) [] bs p q e = absurd p
code_same (Some s ∷ t) [] bs p q e = absurd p
code_same (None ∷ t) (None ∷ xs) [] p q e = absurd q
code_same (None ∷ t) (None ∷ xs) (None ∷ bs) p q e = ap (λ ys. None ∷ ys) (code_same t xs bs p q e)
code_same (None ∷ t) (None ∷ xs) (Some b ∷ bs) p q e = absurd q
code_same (None ∷ t) (Some a ∷ xs) bs p q e = absurd p
code_same (Some s ∷ t) (None ∷ xs) bs p q e = absurd p
code_same (Some s ∷ t) (Some a ∷ xs) [] p q e = absurd q
code_same (Some s ∷ t) (Some a ∷ xs) (None ∷ bs) p q e = absurd q
code_same (Some s ∷ t) (Some a ∷ xs) (Some b ∷ bs) p q e =
    let la = code_low t xs p.1 in
    let lb = code_low t bs q.1 in
    let c : ℕ = histories t in
    ap₂ (λ x ys. Some x ∷ ys)
    (rank_same s a b p.0 q.0 (high_same c (rank s a) (rank s b) (code t xs) (code t bs) la lb e))
    (code_same t xs bs p.1 q.1 (low_same c (rank s a) (rank s b) (code t xs) (code t bs) la lb e))

pub some_twice : (t : Table) (g : ℕ → Bits) → ((i : ℕ) → i ≤ histories t → Passing t (g i)) → Twice g (histories t)
some_twice t g passing =
    let r : Twice (λ i. code t (g i)) (histories t) = pigeonhole (histories t) (λ i. code t (g i)) (λ i l. code_low t (g i) (passing i l)) in
    let apart : r.first < r.second = r.apart in
    let within : r.second ≤ histories t = r.within in
    record {
      first = r.first;
      second = r.second;
      apart = apart;
      within = within;
      same = code_same t (g r.first) (g r.second) (passing r.first (omega arith)) (passing r.second within) r.same;
    }
