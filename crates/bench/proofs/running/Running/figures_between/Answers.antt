use Rattle.std.proofs.Common.{◌≡◌, ◌+◌, ◌-◌, ◌*◌, ◌%◌, ap, ◌∙◌, subst, arith}
use Rattle.laws.proofs.Held.{held_sound}
use Rattle.model.specs.Forecast.{units_to}
use Rattle.model.specs.Schedule.{after}
use Rattle.promise.specs.Answers.{Walked}
use Rattle.promise.proofs.Walks.{walk_now}
use Rattle.streams.specs.Tables.{table_of}
use Rattle.bus.specs.Machines.{state_of}
use Rattle.bench.specs.Searches.{Walks}
use Rattle.bench.specs.Stands.{state_in}
use Rattle.bench.proofs.Figured.{Way, way, walk_is_ok}
use Rattle.bench.proofs.Foretelling.{some_period}
use Rattle.bench.proofs.Stretches.{figures_between}
use Rattle.bench.proofs.running.Running.figures_between.Given as given
use Rattle.bench.proofs.running.Running.figures_between.Goals as goal
use Rattle.bench.proofs.running.Running.figures_between.Goals.{After-units_to_boundary, After-unwrap}

pub units_to_boundary-requires : goal.units_to_boundary-requires
units_to_boundary-requires g c =
    let b = c.args.self.now in
    let s = state_in b in
    omega (arith, c.period-period.ensures, some_period s (held_sound s b.machine.sound) (table_of b.table) b.same)

-- the way to the round and through it
here :
    (g : given.Over) (c : After-units_to_boundary g)
    → Way (state_in c.args.self.now) c.args.round.from c.args.round.to c.period-period.result c.units_to_boundary.result
here g c =
    let b = c.args.self.now in
    let s = state_in b in
    let p = c.period-period.result in
    let e : c.units_to_boundary.result ≡ (p - s.now % p) % p = cc in
    way s (held_sound s b.machine.sound) (table_of b.table) b.same b.table.short b.table.few b.early
    (g.R.Rule.before b.rule) c.args.round.from c.args.round.to c.requires p c.units_to_boundary.result c.period-period.ensures e

pub overflow_mul-units : goal.overflow_mul-units
overflow_mul-units g c = omega (arith, (here g (goal.at.overflow_mul-units g c).After-units_to_boundary).few)

pub overflow_add-units : goal.overflow_add-units
overflow_add-units g c = omega (arith, (here g (goal.at.overflow_add-units g c).After-units_to_boundary).few)

pub walk-requires : goal.walk-requires
walk-requires g c = omega (arith, (here g (goal.at.walk-requires g c).After-units_to_boundary).few, c.args.self.now.early)

pub unwrap-requires : goal.unwrap-requires
unwrap-requires g c =
    let b = c.args.self.now in
    let s = state_in b in
    walk_is_ok (g.R.Rule.before b.rule) s (held_sound s b.machine.sound) _ _ c.requires _ _ _ c.walk.ensures

-- no unit up to the round fails
walked :
    (g : given.Over) (c : After-unwrap g)
    → Walked (g.R.Rule.before c.args.self.now.rule) (state_in c.args.self.now)
    (c.units_to_boundary.result + c.args.round.from * c.period-period.result) (state_of c.walk.new.bus)
walked g c = subst (Walks _ _ _ _) c.unwrap.ensures c.walk.ensures

pub overflow_mul-round : goal.overflow_mul-round
overflow_mul-round g c = omega (arith, (here g (goal.at.overflow_mul-round g c).After-units_to_boundary).few)

pub figures_over-requires : goal.figures_over-requires
figures_over-requires g c =
    let w = here g (goal.at.figures_over-requires g c).After-units_to_boundary in
    record {
      some = w.some;
      early = omega (arith, w.few, c.args.self.now.early, walk_now _ _ _ _ (walked g (goal.at.figures_over-requires g c).After-unwrap));
    }

pub returns : goal.returns
returns g c =
    let s = state_in c.args.self.now in
    let before = g.R.Rule.before c.args.self.now.rule in
    let x = state_of c.walk.new.bus in
    let w = here g (goal.at.returns g c).After-units_to_boundary in
    let there : x ≡ after before s (units_to s c.args.round.from) = (walked g (goal.at.returns g c).After-unwrap).stands ∙ ap (after before s) w.there in
    c.figures_over.ensures ∙ figures_between before s c.args.round.from c.args.round.to x _ (omega (arith, c.requires.apart)) there w.between
