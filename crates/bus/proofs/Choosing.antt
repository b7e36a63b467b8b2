-- The front of the waiting frames, found by a loop over the slots. Assumes nothing.
use Rattle.std.proofs.Common.{◌≡◌, ℕ, ◌+◌, ◌<◌, ◌≤◌, Bool, List, [], ◌∷◌, length, get_or, drop, Some, None, Option, sym, refl, ap, ◌∙◌, add-one}
use Rattle.std.proofs.lemmas.List.{drop_more, drop_all}
use Rattle.std.specs.Option.{option_map}
use Rattle.model.specs.Machine.{Row, Rows, Candidate, candidate, candidates, joined, best, front}
use Rattle.model.specs.Ready.{Ready}
use Rattle.bus.specs.Waiting.{ahead}

-- the waiting frame, if any, of a slot
abbrev pub candidate_in : ℕ → ℕ → Option Row → Option Candidate
candidate_in u i None = None
candidate_in u i (Some r) = option_map (candidate u i r) r.waits

candidates_from : (u i : ℕ) (o : Option Row) (rows : Rows) → candidates u i (o ∷ rows) ≡ joined (candidate_in u i o) (candidates u (i + 1) rows)
unfolding candidates
candidates_from u i None rows = rw add-one refl
candidates_from u i (Some r) rows = rw add-one refl

module _ (before : Ready → Ready → Bool) where
  -- the front of a frame found so far, if any, and others
  abbrev pub front_of : Option Candidate → List Candidate → Option Candidate
  front_of None cs = front before cs
  front_of (Some c) cs = Some (best before c cs)

  front_joined : (o c : Option Candidate) (cs : List Candidate) → front_of o (joined c cs) ≡ front_of (ahead before o c) cs
  unfolding best
  front_joined None None cs = refl
  front_joined None (Some c) cs = refl
  front_joined (Some a) None cs = refl
  front_joined (Some a) (Some c) cs = refl

  ahead_none : (f : Option Candidate) → ahead before f None ≡ f
  ahead_none None = refl
  ahead_none (Some c) = refl

  module _ (u : ℕ) (rows : Rows) (i : ℕ) where
    pub front_more : (o : Option Row) (f c : Option Candidate) → i < length rows → o ≡ get_or rows i None → c ≡ candidate_in u i o
        → front_of f (candidates u i (drop i rows)) ≡ front before (candidates u 0 rows)
        → front_of (ahead before f c) (candidates u (i + 1) (drop (i + 1) rows)) ≡ front before (candidates u 0 rows)
    front_more o f c within read waits h =
        sym (front_joined f c (candidates u (i + 1) (drop (i + 1) rows)))
        ∙ ap (λ d. front_of f (joined d (candidates u (i + 1) (drop (i + 1) rows)))) (waits ∙ ap (candidate_in u i) read)
        ∙ ap (front_of f) (sym (ap (candidates u i) (drop_more rows i None within) ∙ candidates_from u i (get_or rows i None) (drop (i + 1) rows)))
        ∙ h

    pub front_empty : (f : Option Candidate) → i < length rows → None ≡ get_or rows i None
        → front_of f (candidates u i (drop i rows)) ≡ front before (candidates u 0 rows)
        → front_of f (candidates u (i + 1) (drop (i + 1) rows)) ≡ front before (candidates u 0 rows)
    front_empty f within read h =
        ap (λ o. front_of o (candidates u (i + 1) (drop (i + 1) rows))) (sym (ahead_none f)) ∙ front_more None f None within read refl h

  front_of_none : (f : Option Candidate) → front_of f [] ≡ f
  unfolding best
  front_of_none None = refl
  front_of_none (Some c) = refl

  pub front_all : (u i : ℕ) (rows : Rows) (f : Option Candidate) → length rows ≤ i
      → front_of f (candidates u i (drop i rows)) ≡ front before (candidates u 0 rows) → f ≡ front before (candidates u 0 rows)
  unfolding candidates
  front_all u i rows f past h = sym (front_of_none f) ∙ ap (λ l. front_of f (candidates u i l)) (sym (drop_all i rows past)) ∙ h
