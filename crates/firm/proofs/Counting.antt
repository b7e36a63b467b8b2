-- How many ones a history has after outcomes are entered. Assumes nothing.
use Rattle.std.proofs.Common.{◌≡◌, ℕ, zero, suc, ◌+◌, ◌-◌, ◌*◌, ◌/◌, ◌%◌, ◌^◌, ◌<◌, ◌≤◌, leb, refl, ap, add-zero, mul-zero, zero-add, mul-suc, arith}
use lib.Count.{ones, ones_cat, ones-le}
use lib.Pow.{mod-mod-pow}
use Rattle.std.proofs.lemmas.Nat.{pow_pos, mod-pow-add, mod_below, shr_high, mod_low}
use Rattle.firm.specs.Histories.{entered, repeated, passes}

pub ones_bit : (b : ℕ) → b < 2 → ones b ≡ b
unfolding ones
ones_bit zero h = refl
ones_bit (suc zero) h = refl
ones_bit (suc (suc b)) h = absurd (omega arith)

-- one place more holds the bit there
pub ones_place : (h j : ℕ) → ones (h % 2 ^ (1 + j)) ≡ h / 2 ^ j % 2 + ones (h % 2 ^ j)
ones_place h j =
    rw (mod-pow-add h 1 j, ones_cat j (h / 2 ^ j % 2) (h % 2 ^ j) (mod_below h (2 ^ j) (pow_pos j)), ones_bit (h / 2 ^ j % 2) (mod_below (h / 2 ^ j) 2 (omega arith)))

-- more places hold no fewer ones
pub ones_wider : (h i d : ℕ) → ones (h % 2 ^ i) ≤ ones (h % 2 ^ (d + i))
ones_wider h i zero = rw zero-add (omega arith)
ones_wider h i (suc d) =
    let more : suc d + i ≡ 1 + (d + i) = omega arith in
    rw more (omega (arith, ones_place h (d + i), ones_wider h i d))

-- the newest bit comes on top of one place less
pub ones_entered : (k h b j : ℕ) → b < 2 → j + 1 ≤ k → ones (entered k h b % 2 ^ (j + 1)) ≡ ones (h % 2 ^ j) + b
unfolding entered
ones_entered k h b j bit room =
    let wide : k ≡ k - (j + 1) + (j + 1) = omega arith in
    let two : 2 * h + b ≡ h * 2 ^ 1 + b = omega arith in
    rw (two, wide, mod-mod-pow (h * 2 ^ 1 + b) (k - (j + 1)) (j + 1), mod-pow-add (h * 2 ^ 1 + b) j 1, shr_high h 1 b bit, mod_low h 1 b bit)
    (rw (ones_cat 1 (h % 2 ^ j) b bit, ones_bit b bit) refl)

-- a met in the place of the oldest outcome lowers no count
pub ones_met : (k h j : ℕ) → j ≤ k → ones (h % 2 ^ j) ≤ ones (entered k h 1 % 2 ^ j)
ones_met k h zero room = omega (arith, ones-le 0 (h % 2 ^ 0) (mod_below h 1 (omega arith)))
ones_met k h (suc j) room =
    let last : suc j ≡ j + 1 = omega arith in
    let first : suc j ≡ 1 + j = omega arith in
    let new : ones (entered k h 1 % 2 ^ suc j) ≡ ones (h % 2 ^ j) + 1 = rw last (ones_entered k h 1 j (omega arith) (omega arith)) in
    let old : ones (h % 2 ^ suc j) ≡ h / 2 ^ j % 2 + ones (h % 2 ^ j) = rw first (ones_place h j) in
    omega (arith, mod_below (h / 2 ^ j) 2 (omega arith))

pub ones_repeated : (k b h d n : ℕ) → b < 2 → d + n ≤ k → ones (repeated k b n h % 2 ^ (d + n)) ≡ ones (h % 2 ^ d) + b * n
unfolding repeated
ones_repeated k b h d zero bit room = rw (add-zero, mul-zero, add-zero)
ones_repeated k b h d (suc n) bit room =
    let more : d + suc n ≡ (d + n) + 1 = omega arith in
    rw (more, ones_entered k (repeated k b n h) b (d + n) bit (omega arith), ones_repeated k b h d n bit (omega arith), mul-suc)
    (omega arith)

-- so whether it passes is told by the k - n places that stay and the n outcomes that come
pub passes_repeated : (m k b h n : ℕ) → b < 2 → n ≤ k → passes m k (repeated k b n h) ≡ leb m (ones (h % 2 ^ (k - n)) + b * n)
unfolding passes
passes_repeated m k b h n bit room =
    let all : k - n + n ≡ k = omega arith in
    ap (leb m) (rw all at (ones_repeated k b h (k - n) n bit (omega arith)))
