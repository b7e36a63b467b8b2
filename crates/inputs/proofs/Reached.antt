-- How far the answers of lines have come. Assumes nothing.
use Rattle.std.proofs.Common.{◌≡◌, ℕ, ◌<◌, List, [], ◌++◌, length, Some, None, Ok, Option, IfSome, refl, sym, ap, ◌∙◌, subst}
use Rattle.std.proofs.lemmas.List.{append-nil, append_assoc}
use Rattle.std.specs.Io.BufRead.{first_line, drop_through, DropsThrough}
use Rattle.std.specs.Io.KnownBytes.{Appends, IsAtEnd}
use Rattle.hex.specs.Hex.{decode_of}
use Rattle.inputs.specs.Answers.{Answers, Answered}
use Rattle.inputs.specs.Answers.Answers.{none, line}

module _ (Is : List ℕ → List ℕ → Type 0) where
  -- the lines that are left answer what is still to be written
  pub record Reached (lines held : List ℕ) (known contents : Option (List ℕ)) : Type 0 where
    pub left : List ℕ
    pub so_far : List ℕ
    pub reads : known ≡ Some left
    pub holds : contents ≡ Some (held ++ so_far)
    pub ends_in : (rest : List ℕ) → Answers Is left rest → Answers Is lines (so_far ++ rest)

  -- the same where the bytes at the beginning are known
  abbrev pub Progress : Option (List ℕ) → Option (List ℕ) → Option (List ℕ) → Option (List ℕ) → Type 0
  Progress given before known contents = IfSome given (λ lines. IfSome before (λ held. Reached lines held known contents))

  pub begins : (given before : Option (List ℕ)) → Progress given before given before
  begins None before = tt
  begins (Some lines) None = tt
  begins (Some lines) (Some held) =
      record { left = lines; so_far = []; reads = refl; holds = ap Some (sym (append-nil held)); ends_in = λ rest a. a }

  pub advances :
      {lines held : List ℕ} {known contents : Option (List ℕ)} (bytes input text : List ℕ) (known' contents' : Option (List ℕ))
      → Reached lines held known contents → IfSome known (λ xs. (0 < length xs) × (bytes ≡ first_line xs)) → DropsThrough known known' 10
      → decode_of bytes ≡ Ok input → Is input text → Appends contents contents' text → Reached lines held known' contents'
  advances {lines} {held} bytes input text known' contents' r piece drops spells is appends =
      let p : (0 < length r.left) × (bytes ≡ first_line r.left) = subst (λ k. IfSome k (λ xs. (0 < length xs) × (bytes ≡ first_line xs))) r.reads piece in
      let d : known' ≡ Some (drop_through 10 r.left) = subst (λ k. DropsThrough k known' 10) r.reads drops in
      let a : Appends (Some (held ++ r.so_far)) contents' text = subst (λ k. Appends k contents' text) r.holds appends in
      record {
        left = drop_through 10 r.left;
        so_far = r.so_far ++ text;
        reads = d;
        holds = grown held r.so_far contents' a;
        ends_in = λ rest h. subst (Answers Is lines) (sym (append_assoc r.so_far text rest)) (r.ends_in (text ++ rest) (line p.0 (ap decode_of (sym p.1) ∙ spells) is h));
      }
    where
      grown : (held so_far : List ℕ) (c : Option (List ℕ)) → Appends (Some (held ++ so_far)) c text → c ≡ Some (held ++ (so_far ++ text))
      grown held so_far None a = absurd a
      grown held so_far (Some ys) a = ap Some (a ∙ append_assoc held so_far text)

  pub goes_on :
      (given before known contents : Option (List ℕ)) (bytes input text : List ℕ) (known' contents' : Option (List ℕ))
      → Progress given before known contents → IfSome known (λ xs. (0 < length xs) × (bytes ≡ first_line xs)) → DropsThrough known known' 10
      → decode_of bytes ≡ Ok input → Is input text → Appends contents contents' text → Progress given before known' contents'
  goes_on None before known contents bytes input text known' contents' p piece drops spells is appends = tt
  goes_on (Some lines) None known contents bytes input text known' contents' p piece drops spells is appends = tt
  goes_on (Some lines) (Some held) known contents bytes input text known' contents' p piece drops spells is appends =
      advances bytes input text known' contents' p piece drops spells is appends

  -- at the end the answers are written
  pub finishes : (given before known contents : Option (List ℕ)) → Progress given before known contents → IsAtEnd known → Answered Is given before contents
  finishes None before known contents p end = tt
  finishes (Some lines) None known contents p end = tt
  finishes (Some lines) (Some held) known contents p end =
      let e : p.left ≡ [] = subst IsAtEnd p.reads end in
      (p.so_far, subst (Answers Is lines) (append-nil p.so_far) (p.ends_in [] (subst (λ l. Answers Is l []) (sym e) none)), p.holds)
