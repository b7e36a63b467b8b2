use Rattle.std.proofs.Common.{sym, subst, rules}
use Rattle.std.proofs.lemmas.Iterator.{YieldsList-from_slice}
use Rattle.std.proofs.lemmas.Iterator.Consumers.{YieldsList-from_enumerate}
use Rattle.bus.specs.First.{First}
use Rattle.bus.proofs.Leading.{first_by_laws}
use Rattle.bus.proofs.Walking.{reduced, forward, first_left}
use Rattle.bus.proofs.first.first_at.Goals as goal

pub returns : goal.returns
returns g c =
    let found =
    first_left (g.P.Precedes.ahead c.args.by.now) (λ x. x.now) c.args.xs.now c.reduce.result _ _ c.in_ok-first.was
    (reduced _ (forward (g.P.Precedes.ahead c.args.by.now)) _ c.reduce.ensures.ran
    (YieldsList-from_enumerate (YieldsList-from_slice c.args.xs.now cc) cc) (λ a z b q k. search rules)) in
    record {
      value = found;
      first =
          subst (First g.P.Precedes.place (g.P.Precedes.ahead c.args.by.now) c.args.xs.now) (sym found)
          (first_by_laws _ _ (g.met.P.Precedes.total c.args.by.now) (g.met.P.Precedes.chain c.args.by.now) c.args.xs.now);
    }
