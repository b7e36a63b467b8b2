-- Parts of the bytes of a file. Assumes nothing.
use Rattle.std.proofs.Common.{◌≡◌, ℕ, ◌+◌, ◌-◌, ◌<◌, ◌≤◌, List, length, take, drop, Some, None, Option, Bor, ap, ◌∙◌, inl, inr, le_of_eq, arith, length-drop, take_all}
use Rattle.std.specs.Slice.{IsGetRangeResult}

-- what a slice pattern binds behind n elements
pub behind : (n : ℕ) (xs : List ℕ) → take (length xs - n) (drop n xs) ≡ drop n xs
behind n xs = take_all (length xs - n) (drop n xs) (le_of_eq (length-drop n xs))

-- what is asked of the elements behind n
abbrev pub Part : ℕ → List ℕ → ℕ → Option (Bor (List ℕ)) → Type 0
Part n xs len r = IsGetRangeResult (take (length xs - n) (drop n xs)) 0 len r

-- there are too few of them
pub part_missing : (n : ℕ) (xs : List ℕ) (len : ℕ) → Part n xs len None → length xs < n + len
part_missing n xs len is =
    let e = ap length (behind n xs) ∙ length-drop n xs in
    elim is.0 [ inl low ↦ absurd (omega (arith, low)) | inr few ↦ omega (arith, few, e) ]

-- or enough
pub part_there : (n : ℕ) (xs : List ℕ) (len : ℕ) (x : Bor (List ℕ)) → Part n xs len (Some x) → (len ≤ length xs - n) × (x.now ≡ take len (drop n xs))
part_there n xs len x is =
    let e = ap length (behind n xs) ∙ length-drop n xs in
    let all : len - 0 ≡ len = omega arith in
    (omega (arith, is.0.1, e), is.0.2 ∙ ap (λ k. take k (take (length xs - n) (drop n xs))) all ∙ ap (take len) (behind n xs))
