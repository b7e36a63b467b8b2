-- One call after the other: what a list of calls leads to. Assumes nothing.
use Rattle.std.proofs.Common.{◌≡◌, List, [], ◌∷◌, map, Bool, Bor, IfSome, Iter, Some, None, Option, sym, refl, ap, ◌∙◌, subst}
use Rattle.std.proofs.lemmas.List.{nil_from_length}
use Rattle.std.specs.Fn.{Called, Mut}
use Rattle.std.specs.Iterator.{Yields}
use Rattle.std.specs.List.{FoldsTo}
use Rattle.std.specs.Option.{MatchOption, option_map}
use Rattle.std.specs.Slice.Iter.{iter_rest, iter_steps}
use Rattle.model.specs.Bench.{Call, Plain, called, calls_from}
use Rattle.model.specs.Ready.{Ready}

-- the calls that a closure works on a bench of type B, whose rule is of type K
module _ {X B K : Type 0} (call_of : X → Call) (stands : B → Plain) (rule_in : B → K) (before : K → Ready → Ready → Bool) where
  -- a call leads from b to v
  abbrev pub One : B → X → Option B → Type 0
  One b x v = (option_map stands v ≡ called (before (rule_in b)) (stands b) (call_of x)) × IfSome v (λ d. rule_in d ≡ rule_in b)

  -- calls lead from p, under the rule k, to r
  abbrev pub Leads : K → Plain → List X → Option B → Type 0
  Leads k p xs r = (option_map stands r ≡ calls_from (before k) (Some p) (map call_of xs)) × IfSome r (λ d. rule_in d ≡ k)

  leads_end : (b : B) → Leads (rule_in b) (stands b) [] (Some b)
  unfolding calls_from
  leads_end b = (refl, refl)

  leads_none : (b : B) (x : X) (xs : List X) → One b x None → Leads (rule_in b) (stands b) (x ∷ xs) None
  unfolding calls_from
  leads_none b x xs one = (ap (λ p. calls_from (before (rule_in b)) p (map call_of xs)) one.0, tt)

  leads_more : (b d : B) (x : X) (xs : List X) (r : Option B) → One b x (Some d) → Leads (rule_in d) (stands d) xs r → Leads (rule_in b) (stands b) (x ∷ xs) r
  unfolding calls_from
  leads_more b d x xs r one h =
      let k : Leads (rule_in b) (stands d) xs r = subst (λ k. Leads k (stands d) xs r) one.1 h in
      (k.0 ∙ ap (λ p. calls_from (before (rule_in b)) p (map call_of xs)) one.0, k.1)

  -- a closure that works a call on a bench, at each call of a list up to the first that the bench does not have
  module _
      (E : Type 0) {F : Type 0} {g : Mut F (B × (Bor X × Unit {0})) (Option B)}
      (gives : (p q : F) (b : B) (x : Bor X) (v : Option B) → Called g p (b, (x, tt)) v q → One b x.now v) where
    pub leads_all :
        (xs : List (Bor X)) (o : Option (Bor X)) (s t u : Iter X) (f h : F) (b a : B) (r : Option B)
        → Yields iter_steps s xs t → iter_steps t o u
        → FoldsTo {P = F × B} (λ p x q. (v : Option B) × Called g p.0 (p.1, (x, tt)) v q.0 × (v ≡ Some q.1)) (f, b) xs (h, a)
        → MatchOption o (r ≡ Some a) (λ x. (v : Option B) × (k : F) × (e : E) × Called g h (a, (x, tt)) v k × (v ≡ None) × (r ≡ None))
        → Leads (rule_in b) (stands b) (iter_rest s) r
    leads_all [] None s t u f h b a r y n c m =
        subst (λ l. Leads (rule_in b) (stands b) l r) (sym (ap iter_rest y ∙ nil_from_length _ n.0))
        (subst (Leads (rule_in b) (stands b) []) (ap (λ (p : F × B). Some p.1) c ∙ sym m) (leads_end b))
    leads_all [] (Some x) s t u f h b a r y n c m =
        let same : a ≡ b = ap (λ (p : F × B). p.1) (sym c) in
        let one : One a x.now None = subst (One a x.now) m.4 (gives h m.1 a x m.0 m.3) in
        subst (λ l. Leads (rule_in b) (stands b) l r) (sym (ap iter_rest y ∙ n))
        (subst (Leads (rule_in b) (stands b) (x.now ∷ iter_rest u)) (sym m.5) (leads_none b x.now (iter_rest u) (subst (λ d. One d x.now None) same one)))
    leads_all (x ∷ xs) o s t u f h b a r y n c m =
        let d : B = c.0.1 in
        let one : One b x.now (Some d) = subst (One b x.now) c.1.2 (gives f c.0.0 b x c.1.0 c.1.1) in
        subst (λ l. Leads (rule_in b) (stands b) l r) (sym y.1)
        (leads_more b d x.now (iter_rest y.0) r one (leads_all xs o y.0 t u c.0.0 h d a r y.2 n c.2 m))
