-- The first failure among some outcomes is the one that is picked from them. Assumes nothing.
use Rattle.std.proofs.Common.{◌≡◌, suc, ◌<◌, ◌≤◌, Bool, true, false, cond, ◌⊎◌, List, [], ◌∷◌, Some, None, Option, refl, subst, inl, inr, arith}
use Rattle.std.specs.List.{AllByRecursion}
use Rattle.std.proofs.ByRecursion.{All-weaker}
use Rattle.std.proofs.lemmas.Bool.{both_ways, cond_both, cases_order}
use Rattle.std.proofs.lemmas.Bool.Decides.{nat_tests}
use Rattle.model.specs.Machine.{Outcome}
use Rattle.model.specs.Tally.{Failure, sooner, soonest, first_failure}
use Rattle.promise.specs.Boundaries.{NoneFails}
use Rattle.promise.specs.Answers.{FirstOf}

-- f lies at an earlier instant than the outcome, or at its instant in no higher slot
abbrev pub Ahead : Failure → Outcome → Type 0
Ahead f o = (f.instant < o.instant) ⊎ ((f.instant ≡ o.instant) × (f.slot ≤ o.slot))

-- what an outcome shows if it is a failure
abbrev shown : Outcome → Failure
shown o = record { slot = o.slot; frame = o.frame; instant = o.instant }

abbrev Picked : List Outcome → Option Failure → Type 0
Picked os None = NoneFails os
Picked os (Some f) = FirstOf os f

ahead_through : (f g : Failure) (o : Outcome) → (f.instant < g.instant) ⊎ ((f.instant ≡ g.instant) × (f.slot ≤ g.slot)) → Ahead g o → Ahead f o
ahead_through f g o (inl l) (inl m) = inl (omega arith)
ahead_through f g o (inl l) (inr m) = inl (omega (arith, m.0))
ahead_through f g o (inr l) (inl m) = inl (omega (arith, l.0))
ahead_through f g o (inr l) (inr m) = inr (omega (arith, l.0, m.0), omega (arith, l.1, m.1))

-- the sooner of two failures
not_sooner : (f g : Failure) → sooner g f ≡ false → (f.instant < g.instant) ⊎ ((f.instant ≡ g.instant) × (f.slot ≤ g.slot))
not_sooner f g e = elim (cases_order f.instant g.instant) [
  | inl same ↦ inr (same, grind (arith, nat_tests))
  | inr (inl less) ↦ inl less
  | inr (inr more) ↦ absurd (grind (arith, nat_tests))
]

sooner_ahead : (o : Outcome) (g : Failure) → sooner g (shown o) ≡ true → Ahead g o
sooner_ahead o g e = elim (cases_order g.instant o.instant) [
  | inl same ↦ inr (same, grind (arith, nat_tests))
  | inr (inl less) ↦ inl less
  | inr (inr more) ↦ absurd (grind (arith, nat_tests))
]

-- no failure: behind every one
behind_none : (f : Failure) (os : List Outcome) → NoneFails os → AllByRecursion (λ o. o.failure ≡ true → Ahead f o) os
behind_none f os h =
    All-weaker (λ (o : Outcome). o.failure ≡ false) (λ (o : Outcome). o.failure ≡ true → Ahead f o) (λ o no yes. absurd (both_ways o.failure no yes)) os h

-- the first of what follows, if the outcome before it is none or lies no earlier
picked_later : (o : Outcome) (os : List Outcome) (g : Failure) → (o.failure ≡ true → Ahead g o) → FirstOf os g → FirstOf (o ∷ os) g
picked_later o os g ahead p = record {
  place = suc p.place;
  outcome = p.outcome;
  stands = p.stands;
  failed = p.failed;
  slot = p.slot;
  frame = p.frame;
  instant = p.instant;
  first = (ahead, p.first);
}

picked_here : (o : Outcome) (os : List Outcome) → o.failure ≡ true → AllByRecursion (λ x. x.failure ≡ true → Ahead (shown o) x) os → FirstOf (o ∷ os) (shown o)
picked_here o os e first = record {
  place = 0;
  outcome = o;
  stands = refl;
  failed = e;
  slot = refl;
  frame = refl;
  instant = refl;
  first = (λ _. inr (refl, omega arith), first);
}

picked_more : (o : Outcome) (os : List Outcome) (b : Bool) → o.failure ≡ b → (r : Option Failure) → Picked os r
    → Picked (o ∷ os) (soonest (cond b (Some (shown o)) None) r)
picked_more o os false e None p = (e, p)
picked_more o os false e (Some g) p = picked_later o os g (λ yes. absurd (both_ways o.failure e yes)) p
picked_more o os true e None p = picked_here o os e (behind_none (shown o) os p)
picked_more o os true e (Some g) p =
    cond_both (sooner g (shown o)) (Some g) (Some (shown o)) (Picked (o ∷ os))
    (λ soon. picked_later o os g (λ _. sooner_ahead o g soon) p)
    (λ late. picked_here o os e
    (All-weaker (λ (x : Outcome). x.failure ≡ true → Ahead g x) (λ (x : Outcome). x.failure ≡ true → Ahead (shown o) x)
    (λ x ahead yes. ahead_through (shown o) g x (not_sooner (shown o) g late) (ahead yes)) os p.first))

picked : (os : List Outcome) → Picked os (first_failure os)
unfolding first_failure
picked [] = tt
picked (o ∷ os) = picked_more o os o.failure refl (first_failure os) (picked os)

pub first_picked : (os : List Outcome) (f : Failure) → first_failure os ≡ Some f → FirstOf os f
first_picked os f e = subst (Picked os) e (picked os)

pub none_picked : (os : List Outcome) → first_failure os ≡ None → NoneFails os
none_picked os e = subst (Picked os) e (picked os)
