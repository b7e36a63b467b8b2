use Rattle.std.proofs.Common.{map, sym, ◌∙◌, subst}
use Rattle.model.specs.Ready.{Ready}
use Rattle.bus.specs.First.{First}
use Rattle.bus.specs.Stands.{ready_of}
use Rattle.bus.proofs.Frames.{each_lawful}
use Rattle.bus.proofs.Leading.{front_by_rule}
use Rattle.bus.proofs.Walking.{first_place_map}
use Rattle.bus.proofs.front.front_at.Goals as goal

pub returns : goal.returns
returns g c =
    let found = c.first_at.ensures.value ∙ first_place_map ready_of (g.R.Rule.before c.args.rule.now) c.args.frames.now in
    record {
      value = found;
      first =
          subst (First (λ (f : Ready). f.slot) (g.R.Rule.before c.args.rule.now) (map ready_of c.args.frames.now)) (sym found)
          (front_by_rule _ (g.met.R.Rule.total c.args.rule.now) (g.met.R.Rule.chain c.args.rule.now) _
          (each_lawful c.args.frames.now));
    }
