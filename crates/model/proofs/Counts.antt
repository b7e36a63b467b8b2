-- The number of histories of a table: a product of positive counts. Assumes nothing.
use Rattle.std.proofs.Common.{◌≡◌, ℕ, zero, suc, ◌*◌, ◌<◌, ◌≤◌, [], ◌∷◌, length, get_or, set, Some, None, sym, le_of_suc-le-suc, not-suc-le-zero, mul_assoc, mul_comm, mul-pos, arith}
use Rattle.model.specs.Streams.{Stream}
use Rattle.model.specs.Tables.{Table, passing_count, histories, Every}

-- every stream has a history that passes
abbrev pub Passable : Table → Type 0
Passable t = Every (λ s. 1 ≤ passing_count s) t

pub histories_positive : (t : Table) → Passable t → 1 ≤ histories t
unfolding histories
histories_positive [] h = omega arith
histories_positive (None ∷ t) h = histories_positive t h
histories_positive (Some s ∷ t) h = mul-pos h.0 (histories_positive t h.1)

-- a stream laid into an empty slot brings its count of passing histories
pub histories_laid : (t : Table) (i : ℕ) (s : Stream) → i < length t → get_or t i None ≡ None → histories (set t i (Some s)) ≡ histories t * passing_count s
unfolding histories
histories_laid [] i s l n = absurd (not-suc-le-zero l)
histories_laid (None ∷ t) zero s l n = mul_comm (passing_count s) (histories t)
histories_laid (Some r ∷ t) zero s l n = absurd (let z : ◌≡◌ {A = ℕ} 0 1 = cc in omega arith)
histories_laid (None ∷ t) (suc i) s l n = histories_laid t i s (le_of_suc-le-suc l) n
histories_laid (Some r ∷ t) (suc i) s l n =
    rw (histories_laid t i s (le_of_suc-le-suc l) n) (sym (mul_assoc (passing_count r) (histories t) (passing_count s)))
