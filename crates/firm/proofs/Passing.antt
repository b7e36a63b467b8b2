-- The histories that pass are those with at least m ones. Assumes nothing.
use Rattle.std.proofs.Common.{◌≡◌, ℕ, ◌^◌, leb, ap, ◌∙◌, mod-eq_of_lt}
use lib.Count.{ones}
use Rattle.binomial.specs.Choose.{at_least, count}
use Rattle.binomial.proofs.Counts.{counts, count_same}
use Rattle.firm.specs.Histories.{passes}

pub passing_counted : (m k : ℕ) → count (passes m k) (2 ^ k) ≡ at_least k m
unfolding passes
passing_counted m k = count_same (passes m k) (λ h. leb m (ones h)) (2 ^ k) (λ h less. ap (λ n. leb m (ones n)) (mod-eq_of_lt less)) ∙ counts k m
