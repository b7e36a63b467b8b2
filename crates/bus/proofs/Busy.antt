-- When a unit is busy: a frame is in transit, or one waits after the releases. Assumes nothing.
use Rattle.std.proofs.Common.{◌≡◌, ℕ, suc, Bool, List, [], ◌∷◌, ◌||◌, map, is_some, Some, None, Option, refl, ap, ◌∙◌}
use Rattle.std.specs.List.{list_any}
use Rattle.std.specs.Option.{option_map}
use Rattle.model.specs.Figures.{busy}
use Rattle.model.specs.Machine as model
use Rattle.model.specs.Ready.{Ready}
use Rattle.bus.specs.Rows.{row_of, rows_of, transit_of}
use Rattle.bus.specs.States.{standing}
use Rattle.bus.specs.Waiting.{waits_from}
use Rattle.bus.specs.declared.machine.state.State.{State}

-- ---- the front starts where something waits

module _ (before : Ready → Ready → Bool) where
  front_joined : (f : ℕ → model.Candidate) (w : Option ℕ) (cs : List model.Candidate)
      → is_some (model.front before (model.joined (option_map f w) cs)) ≡ is_some w || is_some (model.front before cs)
  front_joined f None cs = refl
  front_joined f (Some j) cs = refl

  front_some : (u i : ℕ) (rows : model.Rows) → is_some (model.front before (model.candidates u i (model.each (model.release_row u) rows))) ≡ list_any (waits_from u) rows
  unfolding model.candidates
  front_some u i [] = refl
  front_some u i (None ∷ rows) = front_some u (suc i) rows
  front_some u i (Some r ∷ rows) =
      let q : model.Row = model.release_row u r in
      front_joined (model.candidate u i q) q.waits (model.candidates u (suc i) (model.each (model.release_row u) rows))
      ∙ ap (◌||◌ (is_some q.waits)) (front_some u (suc i) rows)

  started_some : (t : Option model.Transit) (c : Option model.Candidate) (s : model.State) → s.transit ≡ t
      → is_some (model.starting t c s).transit ≡ is_some t || is_some c
  started_some (Some t) c s e = ap is_some e
  started_some None None s e = ap is_some e
  started_some None (Some c) s e = refl

  busy_when : (s : model.State) → busy before s ≡ is_some s.transit || list_any (waits_from s.now) s.rows
  unfolding model.release model.start
  busy_when s = started_some s.transit _ (model.release s) refl ∙ ap (◌||◌ (is_some s.transit)) (front_some s.now 0 s.rows)

-- ---- the same by the state of the code

some_mapped : {X Y : Type 0} (f : X → Y) (o : Option X) → is_some (option_map f o) ≡ is_some o
some_mapped f None = refl
some_mapped f (Some x) = refl

any_mapped : {X Y : Type 0} (f : X → Y) (test : Y → Bool) (xs : List X) → list_any test (map f xs) ≡ list_any (λ x. test (f x)) xs
any_mapped f test [] = refl
any_mapped f test (x ∷ xs) = ap (◌||◌ (test (f x))) (any_mapped f test xs)

pub busy_standing :
    (s : State) (before : Ready → Ready → Bool)
    → busy before (standing s) ≡ is_some s.transit || list_any (λ o. waits_from s.now (option_map row_of o)) s.rows
busy_standing s before =
    busy_when before (standing s)
    ∙ ap (λ b. b || list_any (waits_from s.now) (rows_of s.rows)) (some_mapped transit_of s.transit)
    ∙ ap (◌||◌ (is_some s.transit)) (any_mapped (option_map row_of) (waits_from s.now) s.rows)
