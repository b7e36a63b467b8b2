use Rattle.std.proofs.Common.{◌≡◌, ◌-◌, ◌%◌, subst, arith}
use Rattle.laws.proofs.Held.{held_sound}
use Rattle.model.specs.Forecast.{units_to}
use Rattle.model.specs.Tables.{hyper_period}
use Rattle.promise.specs.Answers.{Walked}
use Rattle.streams.specs.Tables.{table_of}
use Rattle.bus.specs.Machines.{state_of}
use Rattle.bench.specs.Stands.{state_in}
use Rattle.bench.proofs.Foretelling.{some_period, units_are_first, first_searchable}
use Rattle.bench.proofs.running.Running.first_boundary.Goals as goal

pub units_to_boundary-units-requires : goal.units_to_boundary-units-requires
units_to_boundary-units-requires g c =
    let b = c.args.self.now in
    let s = state_in b in
    omega (arith, c.requires, some_period s (held_sound s b.machine.sound) (table_of b.table) b.same)

pub returns : goal.returns
returns g c =
    let b = c.args.self.now in
    let s = state_in b in
    let h = held_sound s b.machine.sound in
    let t = table_of b.table in
    let before = g.R.Rule.before b.rule in
    let x = state_of c.walk.new.bus in
    let n = c.units_to_boundary-units.result in
    let e : n ≡ (hyper_period t - s.now % hyper_period t) % hyper_period t = cc in
    let w : Walked before s (units_to s 0) x =
    subst (λ k. Walked before s k x) (units_are_first s h t b.same n e) c.in_ok-walk.ensures in
    (w, first_searchable s h t b.same b.table.short b.table.few b.early before x w)
