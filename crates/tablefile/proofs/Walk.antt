-- A walk over the fields of a record: where the bytes that are left begin. Assumes nothing.
use Rattle.std.proofs.Common.{◌≡◌, ℕ, suc, ◌+◌, ◌<◌, ◌≤◌, true, cond, List, length, get_or, drop, ap, ◌∙◌, le_refl, arith, length-drop, drop-drop}
use native.Mathlib.Decide.{le_ind}
use Rattle.model.specs.Fields.{stands, size, start, extent, number, value}

-- bs begins at field i of the record r
abbrev pub At : List ℕ → ℕ → List ℕ → Type 0
At r i bs = bs ≡ drop (start (get_or r 0 0) i) r

-- behind a field the next one begins
pub onward : (r : List ℕ) (i : ℕ) (bs next : List ℕ) → At r i bs → next ≡ drop (cond (stands (get_or r 0 0) i) (size i) 0) bs → At r (suc i) next
unfolding start
onward r i bs next at step =
    step
    ∙ ap (drop (cond (stands (get_or r 0 0) i) (size i) 0)) at
    ∙ drop-drop (cond (stands (get_or r 0 0) i) (size i) 0) (start (get_or r 0 0) i) r

-- a later field begins no earlier
later : (map m n : ℕ) → n ≤ start map m → n ≤ start map (suc m)
unfolding start
later map m n h = omega arith

ordered : (map i j : ℕ) → i ≤ j → start map i ≤ start map j
ordered map i j h = le_ind (λ n. start map i ≤ start map n) (le_refl (start map i)) (λ m _ e. later map m (start map i) e) j h

-- a field that stands lies within the record
pub room : (r : List ℕ) (i : ℕ) (bs : List ℕ) → i < 6 → length r ≡ extent (get_or r 0 0) → At r i bs → stands (get_or r 0 0) i ≡ true → size i ≤ length bs
unfolding start
room r i bs inside whole at on =
    let next = ordered (get_or r 0 0) (suc i) 6 inside in
    let here : start (get_or r 0 0) (suc i) ≡ start (get_or r 0 0) i + size i = ap (λ b. start (get_or r 0 0) i + cond b (size i) 0) on in
    let left = ap length at ∙ length-drop (start (get_or r 0 0) i) r in
    omega arith

-- what is read at a field is the field's value
pub reads : (r : List ℕ) (i missing v : ℕ) (bs : List ℕ) → At r i bs → v ≡ cond (stands (get_or r 0 0) i) (number (size i) bs) missing → v ≡ value r i missing
unfolding value
reads r i missing v bs at is = is ∙ ap (λ l. cond (stands (get_or r 0 0) i) (number (size i) l) missing) at
