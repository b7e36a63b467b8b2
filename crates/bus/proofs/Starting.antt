-- What step 2 does, by what is in transit and what waits. Assumes nothing.
use Rattle.std.proofs.Common.{◌≡◌, Bool, true, false, is_some, Some, None, Option, refl, ap, ◌∙◌}
use Rattle.std.proofs.lemmas.Bool.{true≢false, false≢true}
use Rattle.std.specs.Option.{option_map}
use Rattle.model.specs.Machine as model
use Rattle.model.specs.Ready.{Ready}
use Rattle.bus.specs.Rows.{transit_of}
use Rattle.bus.specs.States.{standing}
use Rattle.bus.specs.declared.machine.state.State.{State}
use Rattle.bus.specs.declared.machine.transit.Transit.{Transit}

busy : (o : Option Transit) (d : Option model.Candidate) (s : model.State) → true ≡ is_some o → s ≡ model.starting (option_map transit_of o) d s
busy None d s e = absurd (true≢false e)
busy (Some t) d s e = refl

idle : (o : Option Transit) → false ≡ is_some o → None ≡ option_map transit_of o
idle None e = refl
idle (Some t) e = absurd (false≢true e)

module _ (before : Ready → Ready → Bool) (s : State) where
  pub start_busy : true ≡ is_some s.transit → standing s ≡ model.start before (standing s)
  unfolding model.start
  start_busy e = busy s.transit _ (standing s) e

  -- with nothing in transit the front starts, if there is one
  pub start_idle :
      (d : Option model.Candidate) (t : model.State) → false ≡ is_some s.transit
      → d ≡ model.front before (model.candidates s.now 0 (standing s).rows)
      → t ≡ model.starting None d (standing s) → t ≡ model.start before (standing s)
  unfolding model.start
  start_idle d t free chosen sent =
      sent ∙ ap (λ c. model.starting None c (standing s)) chosen
      ∙ ap (λ o. model.starting o (model.front before (model.candidates s.now 0 (standing s).rows)) (standing s)) (idle s.transit free)
