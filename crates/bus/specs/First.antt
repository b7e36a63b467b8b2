-- The first element of a list, by a test that orders the elements of different slots. Assumes nothing.
use Rattle.std.specs.Prelude.{◌≡◌, ℕ, suc, ◌<◌, Bool, true, cond, not, List, [], ◌∷◌, length, Some, None, Option, ◌≢◌, slice_index_or}

-- ---- the order

-- of two elements in different slots exactly one is ahead of the other
abbrev pub OneAhead : {X : Type 0} → (X → ℕ) → (X → X → Bool) → Type 0
OneAhead {X} slot ahead = (a b : X) → (slot a ≢ slot b) → ahead a b ≡ not (ahead b a)

-- over three different slots, being ahead is passed along
abbrev pub PassedAlong : {X : Type 0} → (X → ℕ) → (X → X → Bool) → Type 0
PassedAlong {X} slot ahead =
    (a b c : X) → (slot a ≢ slot b) → (slot b ≢ slot c) → (slot a ≢ slot c)
    → ahead a b ≡ true → ahead b c ≡ true → ahead a c ≡ true

-- ---- what the first is

-- no two elements of the list have one slot
abbrev pub Apart : {X : Type 0} → (X → ℕ) → List X → Type 0
Apart {X} slot xs =
    (i j : ℕ) → i < length xs → j < length xs → (i ≢ j) → (d : X) → slot (slice_index_or xs i d) ≢ slot (slice_index_or xs j d)

-- the element at i is ahead of every other one of the first n
abbrev pub Leads : {X : Type 0} → (X → X → Bool) → List X → ℕ → ℕ → Type 0
Leads {X} ahead xs n i = (j : ℕ) → j < n → (i ≢ j) → (d : X) → ahead (slice_index_or xs i d) (slice_index_or xs j d) ≡ true

-- the answer: none of an empty list; else a place of the list, and if no two elements have one slot, the place of the element that is ahead of all others
abbrev pub First : {X : Type 0} → (X → ℕ) → (X → X → Bool) → List X → Option ℕ → Type 0
First slot ahead xs None = length xs ≡ 0
First slot ahead xs (Some i) = (i < length xs) × (Apart slot xs → Leads ahead xs (length xs) i)

-- ---- which one it is, computed

-- where a walk ends that stands at b, in place i, and goes over the elements from place n on:
-- it moves to each element that is ahead of the one where it stands
unfoldable pub walk : {X : Type 0} → (X → X → Bool) → X → ℕ → ℕ → List X → ℕ
walk ahead b i n [] = i
walk ahead b i n (x ∷ xs) = cond (ahead x b) (walk ahead x n (suc n) xs) (walk ahead b i (suc n) xs)

-- where the walk ends that begins at the front of a list
abbrev pub first_place : {X : Type 0} → (X → X → Bool) → List X → Option ℕ
first_place ahead [] = None
first_place ahead (x ∷ xs) = Some (walk ahead x 0 1 xs)
