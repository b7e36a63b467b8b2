-- The waiting frames as a list, and the one that goes before the others. Assumes nothing.
use Rattle.std.proofs.Common.{◌≡◌, ℕ, zero, suc, ◌+◌, ◌<◌, Bool, true, cond, ◌⊎◌, List, [], ◌∷◌, Some, None, Option, sym, refl, ap, ◌∙◌, subst, inl, inr, arith}
use Rattle.std.proofs.lemmas.Bool.{cond_both, cond-true, cond-false, cases_Bool, not_from_false}
use Rattle.std.proofs.ByRecursion.{All-weaker}
use Rattle.std.specs.List.{AllByRecursion}
use Rattle.std.specs.Option.{option_map}
use Rattle.model.specs.Ready.{Ready, Lawful, Total, Chain}
use Rattle.model.specs.Machine.{Row, Rows, Candidate, candidate, joined, candidates, best, front}
use Rattle.laws.specs.Sound.{row_at}

-- ---- what holds of all candidates holds of every waiting frame, and the other way round

all_joined : (Q : Candidate → Type 0) (f : ℕ → Candidate) (w : Option ℕ) (cs : List Candidate) → ((j : ℕ) → w ≡ Some j → Q (f j)) → AllByRecursion Q cs → AllByRecursion Q (joined (option_map f w) cs)
all_joined Q f None cs h k = k
all_joined Q f (Some j) cs h k = (h j refl, k)

joined_first : (Q : Candidate → Type 0) (f : ℕ → Candidate) (w : Option ℕ) (cs : List Candidate) → AllByRecursion Q (joined (option_map f w) cs) → (j : ℕ) → w ≡ Some j → Q (f j)
joined_first Q f None cs h j e = absurd (let z : ◌≡◌ {A = ℕ} 0 1 = cc in omega arith)
joined_first Q f (Some i) cs h j e = let same : i ≡ j = cc in subst (λ n. Q (f n)) same h.0

joined_rest : (Q : Candidate → Type 0) (f : ℕ → Candidate) (w : Option ℕ) (cs : List Candidate) → AllByRecursion Q (joined (option_map f w) cs) → AllByRecursion Q cs
joined_rest Q f None cs h = h
joined_rest Q f (Some i) cs h = h.1

module _ (Q : Candidate → Type 0) (u : ℕ) where
  -- Q at slot m, which is n
  moved : (m n : ℕ) (r : Row) (j : ℕ) → m ≡ n → Q (candidate u m r j) → Q (candidate u n r j)
  moved m n r j e h = subst (λ k. Q (candidate u k r j)) e h

  pub all_candidates : (i : ℕ) (rows : Rows) → ((k : ℕ) (r : Row) (j : ℕ) → row_at rows k ≡ Some r → r.waits ≡ Some j → Q (candidate u (i + k) r j)) → AllByRecursion Q (candidates u i rows)
  unfolding candidates
  all_candidates i [] h = tt
  all_candidates i (None ∷ rows) h =
      all_candidates (suc i) rows (λ k r j e w. moved (i + suc k) (suc i + k) r j (omega arith) (h (suc k) r j e w))
  all_candidates i (Some q ∷ rows) h =
      all_joined Q (candidate u i q) q.waits (candidates u (suc i) rows)
      (λ j w. moved (i + 0) i q j (omega arith) (h 0 q j refl w))
      (all_candidates (suc i) rows (λ k r j e w. moved (i + suc k) (suc i + k) r j (omega arith) (h (suc k) r j e w)))

  pub at_candidates : (i : ℕ) (rows : Rows) → AllByRecursion Q (candidates u i rows) → (k : ℕ) (r : Row) (j : ℕ) → row_at rows k ≡ Some r → r.waits ≡ Some j → Q (candidate u (i + k) r j)
  unfolding candidates
  at_candidates i [] h k r j e w = absurd (let z : ◌≡◌ {A = ℕ} 0 1 = cc in omega arith)
  at_candidates i (None ∷ rows) h zero r j e w = absurd (let z : ◌≡◌ {A = ℕ} 0 1 = cc in omega arith)
  at_candidates i (None ∷ rows) h (suc k) r j e w =
      moved (suc i + k) (i + suc k) r j (omega arith) (at_candidates (suc i) rows h k r j e w)
  at_candidates i (Some q ∷ rows) h zero r j e w =
      let same : q ≡ r = cc in
      moved i (i + 0) r j (omega arith)
      (subst (λ p. Q (candidate u i p j)) same
      (joined_first Q (candidate u i q) q.waits (candidates u (suc i) rows) h j (ap (λ (p : Row). p.waits) same ∙ w)))
  at_candidates i (Some q ∷ rows) h (suc k) r j e w =
      moved (suc i + k) (i + suc k) r j (omega arith)
      (at_candidates (suc i) rows (joined_rest Q (candidate u i q) q.waits (candidates u (suc i) rows) h) k r j e w)

-- ---- their slots rise

abbrev pub Rising : List Candidate → Type 0
Rising [] = Unit {0}
Rising (c ∷ cs) = AllByRecursion (λ (d : Candidate). c.shown.slot < d.shown.slot) cs × Rising cs

rising_joined : (f : ℕ → Candidate) (w : Option ℕ) (cs : List Candidate) → ((j : ℕ) → AllByRecursion (λ (d : Candidate). (f j).shown.slot < d.shown.slot) cs) → Rising cs → Rising (joined (option_map f w) cs)
rising_joined f None cs h k = k
rising_joined f (Some j) cs h k = (h j, k)

pub rising_candidates : (u i : ℕ) (rows : Rows) → Rising (candidates u i rows)
unfolding candidates
rising_candidates u i [] = tt
rising_candidates u i (None ∷ rows) = rising_candidates u (suc i) rows
rising_candidates u i (Some q ∷ rows) =
    rising_joined (candidate u i q) q.waits (candidates u (suc i) rows)
    (λ j. all_candidates (λ c. i < c.shown.slot) u (suc i) rows (λ k r n e w. omega arith))
    (rising_candidates u (suc i) rows)

-- ---- the front

pub best_has : (Q : Candidate → Type 0) (before : Ready → Ready → Bool) (c : Candidate) (cs : List Candidate) → Q c → AllByRecursion Q cs → Q (best before c cs)
unfolding best
best_has Q before c [] h k = h
best_has Q before c (d ∷ cs) h k =
    best_has Q before (cond (before d.shown c.shown) d c) cs (cond_both (before d.shown c.shown) d c Q (λ _. k.0) (λ _. h)) k.1

pub front_has : (Q : Candidate → Type 0) (before : Ready → Ready → Bool) (cs : List Candidate) (c : Candidate) → front before cs ≡ Some c → AllByRecursion Q cs → Q c
front_has Q before [] c e h = absurd (let z : ◌≡◌ {A = ℕ} 0 1 = cc in omega arith)
front_has Q before (d ∷ cs) c e h = let same : best before d cs ≡ c = cc in subst Q same (best_has Q before d cs h.0 h.1)

pub front_none : (Q : Candidate → Type 0) (before : Ready → Ready → Bool) (cs : List Candidate) → front before cs ≡ None → AllByRecursion Q cs
front_none Q before [] e = tt
front_none Q before (d ∷ cs) e = absurd (let z : ◌≡◌ {A = ℕ} 0 1 = cc in omega arith)

abbrev Apart : Candidate → Candidate → Type 0
Apart c d = c.shown.slot ≡ d.shown.slot → ⊥

-- b is d, or is of another slot and goes before d
abbrev pub Leads : (Ready → Ready → Bool) → Candidate → Candidate → Type 0
Leads before b d = (b ≡ d) ⊎ ((b.shown.slot ≡ d.shown.slot → ⊥) × (before b.shown d.shown ≡ true))

module _ (before : Ready → Ready → Bool) (total : Total before) (chain : Chain before) where
  passed_on : (b w l : Candidate) → Lawful b.shown → Lawful w.shown → Lawful l.shown
      → Apart w l → (Apart b w → Apart b l) → before w.shown l.shown ≡ true → Leads before b w → Leads before b l
  passed_on b w l lb lw ll apart far wl h =
      elim h [
        | inl e ↦ inr (subst (λ x. Apart x l) (sym e) apart, subst (λ (x : Candidate). before x.shown l.shown ≡ true) (sym e) wl)
        | inr p ↦ inr (far p.0, chain b.shown w.shown l.shown lb lw ll p.0 apart (far p.0) p.1 wl)
      ]

  pub leads : (c : Candidate) (cs : List Candidate) → Lawful c.shown → AllByRecursion (λ (d : Candidate). Lawful d.shown) cs → Rising (c ∷ cs) → AllByRecursion (Leads before (best before c cs)) (c ∷ cs)
  unfolding best
  leads c [] lc ls rise = (inl refl, tt)
  leads c (d ∷ cs) lc ls rise =
      let t : Bool = before d.shown c.shown in
      let w : Candidate = cond t d c in
      let b : Candidate = best before w cs in
      let lw : Lawful w.shown = cond_both t d c (λ x. Lawful x.shown) (λ _. ls.0) (λ _. lc) in
      let lb : Lawful b.shown = best_has (λ x. Lawful x.shown) before w cs lw ls.1 in
      let rise-w : AllByRecursion (λ (x : Candidate). w.shown.slot < x.shown.slot) cs =
      cond_both t d c (λ x. AllByRecursion (λ (y : Candidate). x.shown.slot < y.shown.slot) cs) (λ _. rise.1.0) (λ _. rise.0.1) in
      let far : Apart b w → d.shown.slot < b.shown.slot =
      best_has (λ x. Apart x w → d.shown.slot < x.shown.slot) before w cs (λ ne. absurd (ne refl))
      (All-weaker (λ x. d.shown.slot < x.shown.slot) (λ x. Apart x w → d.shown.slot < x.shown.slot) (λ x l ne. l) cs rise.1.0) in
      let less : c.shown.slot < d.shown.slot = rise.0.0 in
      let rest : AllByRecursion (Leads before b) (w ∷ cs) = leads w cs lw ls.1 (rise-w, rise.1.1) in
      elim (cases_Bool t) [
        | inl e ↦
            let is : w ≡ d = cond-true t d c e in
            let d-led : Leads before b d = subst (Leads before b) is rest.0 in
            (passed_on b d c lb ls.0 lc (λ q. omega (arith, q)) (λ ne q. omega (arith, far (λ z. ne (z ∙ ap (λ (x : Candidate). x.shown.slot) is)), q)) e d-led, (d-led, rest.1))
        | inr e ↦
            let is : w ≡ c = cond-false t d c e in
            let c-led : Leads before b c = subst (Leads before b) is rest.0 in
            let wins : before c.shown d.shown ≡ true =
            total c.shown d.shown lc ls.0 (λ q. omega (arith, q)) ∙ not_from_false t e in
            (c-led, (passed_on b c d lb lc ls.0 (λ q. omega (arith, q)) (λ ne q. omega (arith, far (λ z. ne (z ∙ ap (λ (x : Candidate). x.shown.slot) is)), q)) wins c-led, rest.1))
      ]

  pub front_leads : (cs : List Candidate) (c : Candidate) → front before cs ≡ Some c → AllByRecursion (λ (d : Candidate). Lawful d.shown) cs → Rising cs → AllByRecursion (Leads before c) cs
  front_leads [] c e ls rise = tt
  front_leads (d ∷ cs) c e ls rise =
      let same : best before d cs ≡ c = cc in
      subst (λ b. AllByRecursion (Leads before b) (d ∷ cs)) same (leads d cs ls.0 ls.1 rise)
