use Rattle.std.proofs.Common.{◌≡◌, Option, sym, ap, ◌∙◌, rules}
use Rattle.std.proofs.lemmas.Bool.{cond-true, cond-false}
use Rattle.std.specs.Option.{option_map}
use Rattle.model.specs.Machine as model
use Rattle.bus.specs.Rows.{transit_of}
use Rattle.bus.specs.States.{standing}
use Rattle.bus.proofs.machine.state.State.mark.Goals as goal

pub returns-then-noisy : goal.returns-then-noisy
unfolding model.mark
returns-then-noisy c =
    let hit : option_map transit_of c.map-self.result ≡ option_map model.hit (option_map transit_of c.args.self.now.transit) = search rules in
    ap (λ (t : Option model.Transit). record { now = c.args.self.now.now; rows = (standing c.args.self.now).rows; transit = t })
    (hit ∙ sym (cond-true c.args.noisy _ _ c.if-noisy.true))

pub returns-else-noisy : goal.returns-else-noisy
unfolding model.mark
returns-else-noisy c =
    ap (λ (t : Option model.Transit). record { now = c.args.self.now.now; rows = (standing c.args.self.now).rows; transit = t })
    (sym (cond-false c.args.noisy _ _ c.if-noisy.false))
