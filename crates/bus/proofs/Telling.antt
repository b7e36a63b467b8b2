-- What is told of some outcomes and then of others. Assumes nothing.
use Rattle.std.proofs.Common.{◌≡◌, ℕ, ◌+◌, ◌<◌, ◌≤◌, Bool, true, false, cond, not, List, [], ◌∷◌, ◌++◌, length, get_or, drop, is_some, Some, None, Option, sym, refl, ap, min, ◌∙◌, subst, add_assoc, add-zero, zero-add, add-one, arith, lit≤}
use Rattle.std.proofs.lemmas.Bool.{cond_both}
use Rattle.std.proofs.lemmas.List.{drop_more, drop_all}
use Rattle.std.specs.Bool.{then_some}
use Rattle.std.proofs.Math.Nat.{min-eq_left}
use Rattle.firm.specs.declared.outcome.Outcome as firm
use Rattle.firm.specs.declared.outcome.Outcome.TheVariants.{Met, Missed}
use Rattle.model.specs.Machine.{Row, Rows, Outcome, dropped, drops}
use Rattle.model.specs.Tally.{Tally, Failure, how_many, soonest, first_failure, tally}
use Rattle.model.proofs.Tallies.{how_many_append, soonest_assoc, first_failure_append}
use Rattle.bus.specs.Endings.{is_met, told_of, AtMost}
use Rattle.bus.specs.Tallies.{capped, together}
use Rattle.bus.specs.declared.failure.Failure as code
use Rattle.bus.specs.declared.machine.ended.Ended.{Ended}

pub tally_together : (xs ys : List Outcome) → tally (xs ++ ys) ≡ together (tally xs) (tally ys)
unfolding tally
tally_together xs ys =
    let met = how_many_append (λ o. o.met) xs ys in
    let missed = how_many_append (λ o. not o.met) xs ys in
    let failures = how_many_append (λ o. o.failure) xs ys in
    let first = first_failure_append xs ys in
    cc

together_assoc : (a b c : Tally) → together (together a b) c ≡ together a (together b c)
together_assoc a b c =
    let met = add_assoc a.met b.met c.met in
    let missed = add_assoc a.missed b.missed c.missed in
    let failures = add_assoc a.failures b.failures c.failures in
    let first = soonest_assoc a.first b.first c.first in
    cc

soonest_nothing : (o : Option Failure) → soonest o None ≡ o
soonest_nothing None = refl
soonest_nothing (Some f) = refl

pub and_nothing : (t : Tally) → together t (tally []) ≡ t
unfolding tally how_many first_failure
and_nothing t = simp (add-zero, soonest_nothing)

pub nothing_and : (t : Tally) → together (tally []) t ≡ t
unfolding tally how_many first_failure
nothing_and t = simp zero-add

-- ---- one outcome, or none

pub told_none : told_of None ≡ tally []
unfolding tally how_many first_failure
told_none = refl

-- a frame that ended, and is a failure if b says so
pub told_one :
    (out : firm.Outcome) (b : Bool) (note : code.Failure) (r : Option code.Failure) → r ≡ then_some b note
    → told_of (Some (record { outcome = out; failure = r })) ≡ tally (record { slot = note.slot; frame = note.frame; instant = note.instant; met = is_met out; failure = b } ∷ [])
unfolding tally how_many first_failure
told_one Met true note r e = ap (λ o. told_of (Some (record { outcome = Met; failure = o }))) e
told_one Met false note r e = ap (λ o. told_of (Some (record { outcome = Met; failure = o }))) e
told_one Missed true note r e = ap (λ o. told_of (Some (record { outcome = Missed; failure = o }))) e
told_one Missed false note r e = ap (λ o. told_of (Some (record { outcome = Missed; failure = o }))) e

one : (t : Bool) (m n : ℕ) → m ≤ 1 → n ≤ 1 → cond t m n ≤ 1
one t m n p q = cond_both t m n (λ x. x ≤ 1) (λ _. p) (λ _. q)

pub told_few : (e : Option Ended) → AtMost 1 (told_of e)
told_few None = (omega arith, omega arith, omega arith)
told_few (Some e) = (one (is_met e.outcome) 1 0 (lit≤ tt) (lit≤ tt), one (is_met e.outcome) 0 1 (lit≤ tt) (lit≤ tt), one (is_some e.failure) 1 0 (lit≤ tt) (lit≤ tt))

pub none_few : (n : ℕ) (t : Tally) → t ≡ tally [] → AtMost n t
unfolding tally how_many
none_few n t e = subst (AtMost n) (sym e) (omega arith, omega arith, omega arith)

pub one_few : (t nothing : Tally) (e : Option Ended) → nothing ≡ tally [] → t ≡ together nothing (told_of e) → AtMost 1 t
one_few t nothing e none one = subst (AtMost 1) (sym (one ∙ ap (λ n. together n (told_of e)) none ∙ nothing_and _)) (told_few e)

-- counts that are not above the most stay as they are
pub capped_few : (most : ℕ) (t : Tally) → AtMost most t → capped most t ≡ t
capped_few most t h =
    ap (λ n. record { met = n; missed = min t.missed most; failures = min t.failures most; first = t.first }) (min-eq_left h.0)
    ∙ ap (λ n. record { met = t.met; missed = n; failures = min t.failures most; first = t.first }) (min-eq_left h.1)
    ∙ ap (λ n. record { met = t.met; missed = t.missed; failures = n; first = t.first }) (min-eq_left h.2)

-- ---- the drops of the slots, told one after the other

-- what is dropped in slot i
abbrev pub dropped_in : ℕ → ℕ → Option Row → List Outcome
dropped_in u i None = []
dropped_in u i (Some r) = dropped u i r.waits r

drops_from : (u i : ℕ) (o : Option Row) (rows : Rows) → drops u i (o ∷ rows) ≡ dropped_in u i o ++ drops u (i + 1) rows
unfolding drops
drops_from u i None rows = rw add-one refl
drops_from u i (Some r) rows = rw add-one refl

-- t tells of the drops of the first i slots
pub record Told (u : ℕ) (rows : Rows) (t : Tally) (i : ℕ) : Type 0 where
  pub few : AtMost i t
  pub whole : together t (tally (drops u i (drop i rows))) ≡ tally (drops u 0 rows)

module _ (u : ℕ) (rows : Rows) (t : Tally) where
  pub told_start : t ≡ tally [] → Told u rows t 0
  told_start e = record { few = none_few 0 t e; whole = ap (λ n. together n (tally (drops u 0 rows))) e ∙ nothing_and _ }

module _ (u : ℕ) (rows : Rows) (t : Tally) (i : ℕ) where
  pub told_more : (o : Option Row) (e : Option Ended) → i < length rows → o ≡ get_or rows i None → told_of e ≡ tally (dropped_in u i o)
      → Told u rows t i → Told u rows (together t (told_of e)) (i + 1)
  told_more o e within read one h =
      let rest : List Outcome = drops u (i + 1) (drop (i + 1) rows) in
      let here : drops u i (drop i rows) ≡ dropped_in u i o ++ rest =
      ap (drops u i) (drop_more rows i None within ∙ ap (λ x. x ∷ drop (i + 1) rows) (sym read)) ∙ drops_from u i o (drop (i + 1) rows) in
      record {
        few = let few = told_few e in (omega (arith, h.few), omega (arith, h.few), omega (arith, h.few));
        whole =
            together_assoc t (told_of e) (tally rest)
            ∙ ap (λ b. together t (together b (tally rest))) one
            ∙ ap (together t) (sym (tally_together (dropped_in u i o) rest) ∙ sym (ap tally here))
            ∙ h.whole;
      }

  pub told_empty : i < length rows → None ≡ get_or rows i None → Told u rows t i → Told u rows t (i + 1)
  told_empty within read h =
      subst (λ s. Told u rows s (i + 1)) (ap (together t) told_none ∙ and_nothing t) (told_more None None within read told_none h)

  pub told_all : length rows ≤ i → Told u rows t i → t ≡ tally (drops u 0 rows)
  unfolding drops
  told_all past h =
      sym (and_nothing t) ∙ ap (λ l. together t (tally (drops u i l))) (sym (drop_all i rows past)) ∙ h.whole
