-- The walk over a list finds the element that is ahead of all others. Assumes nothing.
use Rattle.std.proofs.Common.{◌≡◌, ℕ, suc, ◌+◌, ◌<◌, ◌≤◌, Bool, true, false, cond, not, List, [], ◌∷◌, length, get_or, drop, refl, ap, ◌∙◌, subst, ⊎_elim, add-one, arith, lit<, length-drop, below_more}
use Rattle.std.proofs.lemmas.List.{drop_more}
use Rattle.std.proofs.lemmas.Bool.{cases_eq, cond_both}
use Rattle.model.specs.Ready.{Ready, Lawful, Total, Chain}
use Rattle.bus.specs.First.{OneAhead, PassedAlong, Apart, Leads, First, walk, first_place}

-- the two laws, at the places of a list
abbrev Settled : {X : Type 0} → (X → X → Bool) → List X → Type 0
Settled {X} ahead zs =
    (i j : ℕ) → i < length zs → j < length zs → (i ≡ j → ⊥) → (d : X)
    → ahead (get_or zs i d) (get_or zs j d) ≡ not (ahead (get_or zs j d) (get_or zs i d))

abbrev HandedOn : {X : Type 0} → (X → X → Bool) → List X → Type 0
HandedOn {X} ahead zs =
    (i j k : ℕ) → i < length zs → j < length zs → k < length zs → (i ≡ j → ⊥) → (j ≡ k → ⊥) → (i ≡ k → ⊥) → (d : X)
    → ahead (get_or zs i d) (get_or zs j d) ≡ true → ahead (get_or zs j d) (get_or zs k d) ≡ true
    → ahead (get_or zs i d) (get_or zs k d) ≡ true

module _ {X : Type 0} (ahead : X → X → Bool) (zs : List X) (settled : Settled ahead zs) (handed : HandedOn ahead zs) where
  -- the leader of the first n is ahead of the next, and leads on
  leads_on :
      (n i : ℕ) → n < length zs → i < n → Leads ahead zs n i
      → ((d : X) → ahead (get_or zs n d) (get_or zs i d) ≡ false) → Leads ahead zs (n + 1) i
  leads_on n i within low leads behind =
      below_more (λ j. (i ≡ j → ⊥) → (d : X) → ahead (get_or zs i d) (get_or zs j d) ≡ true) n leads
      (λ other d. settled i n (omega arith) within other d ∙ ap not (behind d))

  -- the next is ahead of the leader of the first n, so of all that this one leads
  leads_instead :
      (n i : ℕ) → n < length zs → i < n → Leads ahead zs n i
      → ((d : X) → ahead (get_or zs n d) (get_or zs i d) ≡ true) → Leads ahead zs (n + 1) n
  leads_instead n i within low leads in-front =
      below_more (λ j. (n ≡ j → ⊥) → (d : X) → ahead (get_or zs n d) (get_or zs j d) ≡ true) n
      (λ j below other d.
      ⊎_elim
      (λ e. subst (λ (k : ℕ). ahead (get_or zs n d) (get_or zs k d) ≡ true) e (in-front d))
      (λ ne.
      handed n i j within (omega arith) (omega arith) (omega arith) ne other d (in-front d) (leads j below ne d))
      (cases_eq i j))
      (λ other. absurd (other refl))

  -- so the walk ends at the leader of all
  walk_leads :
      (xs : List X) (b : X) (i n : ℕ) → drop n zs ≡ xs → ((d : X) → get_or zs i d ≡ b) → i < n → n ≤ length zs → Leads ahead zs n i
      → Leads ahead zs (length zs) (walk ahead b i n xs)
  unfolding walk
  walk_leads [] b i n rest stands low within leads =
      let all : n ≡ length zs = omega (arith, length-drop n zs, ap length rest) in
      subst (λ (m : ℕ). Leads ahead zs m i) all leads
  walk_leads (x ∷ xs) b i n rest stands low within leads =
      let fits : n < length zs = omega (arith, length-drop n zs, ap length rest) in
      let comes : (d : X) → get_or zs n d ≡ x = λ d. let e = drop_more zs n d fits in cc in
      let left : drop (n + 1) zs ≡ xs = let e = drop_more zs n x fits in cc in
      let reads : (t : Bool) → ahead x b ≡ t → (d : X) → ahead (get_or zs n d) (get_or zs i d) ≡ t = λ t e d. let p = comes d in let q = stands d in cc in
      elim (ahead x b) as
      (λ t. ahead x b ≡ t → Leads ahead zs (length zs) (cond t (walk ahead x n (suc n) xs) (walk ahead b i (suc n) xs))) [
        | true ↦ λ e. walk_leads xs x n (suc n) (rw (← add-one) left) comes (omega arith) (omega arith)
            (rw (← add-one) (leads_instead n i fits low leads (reads true e)))
        | false ↦ λ e. walk_leads xs b i (suc n) (rw (← add-one) left) stands (omega arith) (omega arith)
            (rw (← add-one) (leads_on n i fits low leads (reads false e)))
      ]
      refl

walk_within :
    {X : Type 0} (ahead : X → X → Bool) (xs : List X) (b : X) (i n : ℕ) → i < n → walk ahead b i n xs < n + length xs
unfolding walk
walk_within ahead [] b i n low = omega arith
walk_within ahead (x ∷ xs) b i n low =
    cond_both (ahead x b) _ _ (λ m. m < n + suc (length xs))
    (λ _. omega (arith, walk_within ahead xs x n (suc n) (omega arith)))
    (λ _. omega (arith, walk_within ahead xs b i (suc n) (omega arith)))

-- the place that the walk over a whole list finds is its first, where the laws hold at places of different slots
found_first :
    {X : Type 0} (slot : X → ℕ) (ahead : X → X → Bool) (zs : List X)
    → (Apart slot zs → Settled ahead zs) → (Apart slot zs → HandedOn ahead zs) → First slot ahead zs (first_place ahead zs)
found_first slot ahead [] settled handed = refl
found_first {X} slot ahead (x ∷ xs) settled handed = (
  omega (arith, walk_within ahead xs x 0 1 (lit< tt)),
  λ apart.
      walk_leads ahead (x ∷ xs) (settled apart) (handed apart) xs x 0 1 refl (λ _. refl) (lit< tt) (omega arith)
      (λ j low other. absurd (other (omega arith))),
)

pub first_by_laws :
    {X : Type 0} (slot : X → ℕ) (ahead : X → X → Bool) → OneAhead slot ahead → PassedAlong slot ahead
    → (zs : List X) → First slot ahead zs (first_place ahead zs)
first_by_laws slot ahead total chain zs =
    found_first slot ahead zs
    (λ apart i j hi hj ij d. total (get_or zs i d) (get_or zs j d) (apart i j hi hj ij d))
    (λ apart i j k hi hj hk ij jk ik d.
    chain (get_or zs i d) (get_or zs j d) (get_or zs k d) (apart i j hi hj ij d) (apart j k hj hk jk d) (apart i k hi hk ik d))

-- the same of lawful waiting frames under a lawful rule
pub front_by_rule :
    (before : Ready → Ready → Bool) → Total before → Chain before
    → (fs : List Ready) → ((i : ℕ) → i < length fs → (d : Ready) → Lawful (get_or fs i d))
    → First (λ f. f.slot) before fs (first_place before fs)
front_by_rule before total chain fs lawful =
    found_first (λ f. f.slot) before fs
    (λ apart i j hi hj ij d. total (get_or fs i d) (get_or fs j d) (lawful i hi d) (lawful j hj d) (apart i j hi hj ij d))
    (λ apart i j k hi hj hk ij jk ik d.
    chain (get_or fs i d) (get_or fs j d) (get_or fs k d) (lawful i hi d) (lawful j hj d) (lawful k hk d)
    (apart i j hi hj ij d) (apart j k hj hk jk d) (apart i k hi hk ik d))
