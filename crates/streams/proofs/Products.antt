-- A table's number of histories as one product over its slots. Assumes nothing.
use Rattle.std.proofs.Common.{◌≡◌, ℕ, zero, suc, ◌*◌, ◌<◌, ◌≤◌, List, [], ◌∷◌, length, map, take, None, Some, Option, sym, ap, ◌∙◌, mul_assoc, mul-one, one-mul, le-mul_of_pos_right, map-id, arith}
use Rattle.std.proofs.iter.runs.Made.{took}
use Rattle.std.proofs.lemmas.Iterator.{YieldsList}
use Rattle.std.proofs.lemmas.Iterator.Consumers.{YieldsList-at, YieldsList-so_far}
use Rattle.std.specs.Iterator.Runs.{EachRunFrom}
use Rattle.std.specs.List.{fold}
use Rattle.std.specs.Option.{option_map_or}
use Rattle.binomial.proofs.Sums.{at_least_positive}
use Rattle.model.specs.Tables.{passing_count, histories}
use Rattle.streams.specs.Stands.{stream_of, slots_of}
use Rattle.streams.specs.declared.stream.Stream.{Stream}

-- the product of some numbers, from k on
abbrev pub product : ℕ → List ℕ → ℕ
product k ns = fold (λ a n. a * n) k ns

-- every number is positive
abbrev pub Positive : List ℕ → Type 0
Positive [] = Unit {0}
Positive (n ∷ ns) = (1 ≤ n) × Positive ns

-- a product does not shrink, so that of the first numbers is no larger than that of all
grows : (k : ℕ) (ns : List ℕ) → Positive ns → k ≤ product k ns
grows k [] h = omega arith
grows k (n ∷ ns) h = omega (arith, le-mul_of_pos_right k h.0, grows (k * n) ns h.1)

first_within : (k i : ℕ) (ns : List ℕ) → Positive ns → product k (take i ns) ≤ product k ns
first_within k zero ns h = grows k ns h
first_within k (suc i) [] h = omega arith
first_within k (suc i) (n ∷ ns) h = first_within (k * n) i ns h.1

-- what `product` requires, from the product of the whole list
pub product_fits : {S : Type 0} {steps : S → Option ℕ → S → Type 0} {all : List ℕ} (s : S) (top : ℕ) → YieldsList steps (λ x. x) s all → Positive all → product 1 all < top → EachRunFrom steps s (λ p. product 1 p.items < top)
product_fits {all = all} s top road positive less p seen from =
    let front : map (λ x. x) p.items ≡ take (length p.items) all = YieldsList-so_far (YieldsList-at from road) p.items (took p).0 (took p).1 in
    let same : p.items ≡ take (length p.items) all = sym (map-id p.items) ∙ front in
    omega (arith, ap (product 1) same, first_within 1 (length p.items) all positive)

-- how many histories of the stream in a slot pass; an empty slot counts 1
abbrev pub count_in : Option Stream → ℕ
count_in slot = option_map_or (λ s. passing_count (stream_of s)) slot 1

-- the counts of some slots
abbrev pub counts : List (Option Stream) → List ℕ
counts slots = map count_in slots

pub counts_positive : (slots : List (Option Stream)) → Positive (counts slots)
counts_positive [] = tt
counts_positive (None ∷ slots) = (omega arith, counts_positive slots)
counts_positive (Some s ∷ slots) = (at_least_positive s.history.k s.history.m s.history.most, counts_positive slots)

product_from : (k : ℕ) (slots : List (Option Stream)) → product k (counts slots) ≡ k * histories (slots_of slots)
unfolding histories
product_from k [] = sym (mul-one k)
product_from k (None ∷ slots) = ap (λ n. product n (counts slots)) (mul-one k) ∙ product_from k slots
product_from k (Some s ∷ slots) = product_from (k * passing_count (stream_of s)) slots ∙ mul_assoc k (passing_count (stream_of s)) _

pub product_counts : (slots : List (Option Stream)) → product 1 (counts slots) ≡ histories (slots_of slots)
product_counts slots = product_from 1 slots ∙ one-mul _
