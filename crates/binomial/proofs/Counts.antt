-- Counts of the numbers below a bound that pass a test, and that the binomial sums count numbers by their ones. Assumes nothing.
use Rattle.std.proofs.Common.{◌≡◌, ℕ, zero, suc, pred, ◌+◌, ◌^◌, ◌<◌, ◌≤◌, Bool, cond, leb, sym, refl, ap, ◌∙◌, subst, ap₂, le_trans, add-zero, add-suc, one-mul, two-mul, one-add, arith, pow_mono}
use native.Mathlib.Nat.{pow-succ'}
use lib.Dec.{leb-zero, leb-suc-zero, leb-suc-suc}
use lib.Count.{ones, ones_in, ones_cat}
use Rattle.std.proofs.lemmas.Bool.{cond_both}
use Rattle.binomial.specs.Choose.{choose, choices, at_least, count, SumsCount}
use Rattle.binomial.proofs.Sums.{at_least_past, at_least_rule}

-- two tests that agree below n pass as often there
pub count_same : (f g : ℕ → Bool) (n : ℕ) → ((h : ℕ) → h < n → f h ≡ g h) → count f n ≡ count g n
unfolding count
count_same f g zero same = refl
count_same f g (suc n) same =
    ap₂ (λ b m. cond b 1 0 + m) (same n (omega arith)) (count_same f g n (λ h l. same h (omega arith)))

-- the numbers below a + b are those below a, and a + h for each h below b
pub count_split : (f : ℕ → Bool) (a b : ℕ) → count f (a + b) ≡ count (λ h. f (a + h)) b + count f a
unfolding count
count_split f a zero = ap (count f) (add-zero a) ∙ omega arith
count_split f a (suc b) = ap (count f) (add-suc a b) ∙ omega (arith, count_split f a b)

pub count_le : (f : ℕ → Bool) (n : ℕ) → count f n ≤ n
unfolding count
count_le f zero = omega arith
count_le f (suc n) = omega (arith, cond_both (f n) 1 0 (λ x. x ≤ 1) (λ _. omega arith) (λ _. omega arith), count_le f n)

-- a one above the k bits of h
ones_above : (k h : ℕ) → h < 2 ^ k → ones (2 ^ k + h) ≡ suc (ones h)
unfolding ones ones_in
ones_above k h l = ap (λ x. ones (x + h)) (sym (one-mul (2 ^ k))) ∙ ones_cat k 1 h l ∙ one-add (ones h)

under : (m n : ℕ) → leb m (suc n) ≡ leb (pred m) n
under zero n = leb-zero (suc n) ∙ sym (leb-zero n)
under (suc m) n = leb-suc-suc m n

-- the numbers of k + 1 bits are those with the highest bit, which need a one less below it, and those without
next_bit : (k m : ℕ) → count (λ h. leb m (ones h)) (2 ^ suc k) ≡ count (λ h. leb (pred m) (ones h)) (2 ^ k) + count (λ h. leb m (ones h)) (2 ^ k)
next_bit k m =
    ap (count (λ h. leb m (ones h))) (pow-succ' 2 k ∙ two-mul (2 ^ k))
    ∙ count_split (λ h. leb m (ones h)) (2 ^ k) (2 ^ k)
    ∙ ap (λ c. c + count (λ h. leb m (ones h)) (2 ^ k))
    (count_same (λ h. leb m (ones (2 ^ k + h))) (λ h. leb (pred m) (ones h)) (2 ^ k) (λ h l. ap (leb m) (ones_above k h l) ∙ under m (ones h)))

-- the sums count numbers by their ones
pub counts : SumsCount
unfolding choose choices at_least count ones ones_in
counts zero zero = refl
counts zero (suc m) = ap (λ b. cond b 1 0 + 0) (leb-suc-zero m) ∙ sym (at_least_past 0 (suc m) (omega arith))
counts (suc k) m = next_bit k m ∙ ap₂ ◌+◌ (counts k (pred m)) (counts k m) ∙ sym (at_least_rule k m)

-- no more than there are
pub at_least_le : (k m : ℕ) → at_least k m ≤ 2 ^ k
at_least_le k m = subst (λ (n : ℕ). n ≤ 2 ^ k) (counts k m) (count_le (λ h. leb m (ones h)) (2 ^ k))

-- 65,536 at most, by the rows of the table
pub at_least_small : (k m : ℕ) → k ≤ 16 → at_least k m ≤ 65536
at_least_small k m h = le_trans (at_least_le k m) (pow_mono h)
