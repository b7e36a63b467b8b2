-- The words in which tests and their answers are stated. Assumes nothing.
use Rattle.std.specs.Prelude.{ℕ, Bool, true, cond, Ok, Err, Result, nat_lt}

-- n lies outside low to high
abbrev pub outside : ℕ → ℕ → ℕ → Bool
outside low high n = cond (nat_lt n low) true (nat_lt high n)

-- the same answer with f of what an `Ok` holds
abbrev pub on_ok : {A B E : Type 0} → (A → B) → Result A E → Result B E
on_ok f (Ok x) = Ok (f x)
on_ok f (Err e) = Err e

-- what an `Ok` holds goes on to f
abbrev pub and_then : {A B E : Type 0} → Result A E → (A → Result B E) → Result B E
and_then (Ok x) f = f x
and_then (Err e) f = Err e

-- a call that changes a value in place, from the new value or refusal that defines it. Its answer: done, or the refusal
abbrev pub done : {A E : Type 0} → Result A E → Result (Unit {0}) E
done (Ok x) = Ok tt
done (Err e) = Err e

-- what stands afterwards: the new value, or the old one where the call is refused
abbrev pub kept : {A E : Type 0} → A → Result A E → A
kept old (Ok x) = x
kept old (Err e) = old
