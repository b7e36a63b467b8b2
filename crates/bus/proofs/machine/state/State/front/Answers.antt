use Rattle.std.proofs.Common.{◌≡◌, ◌+◌, ◌<◌, length, get_or, drop, Some, None, sym, ap, ◌∙◌, subst, arith}
use Rattle.std.proofs.lemmas.List.{length-map}
use Rattle.std.specs.Option.{option_map}
use Rattle.model.specs.Machine as model
use Rattle.bus.specs.Rows.{row_of, rows_of}
use Rattle.bus.specs.Waiting.{SendableIn, candidate_of}
use Rattle.bus.proofs.Choosing.{front_of, front_more, front_empty, front_all}
use Rattle.bus.proofs.Writing.{row_at}
use Rattle.bus.proofs.machine.state.State.front.Goals as goal
use Rattle.bus.proofs.machine.state.State.front.Goals.{in-Some, in_default}

pub candidate-requires : goal.candidate-requires
candidate-requires g c =
    let s = c.args.self.now in
    let there : get_or (rows_of s.rows) c.loop-i.i None ≡ Some (row_of c.in-Some.row) =
    sym (row_at s.rows c.loop-i.i c.slot-item.result (omega arith)) ∙ ap (option_map row_of) c.in-Some.is in
    (omega arith, subst (SendableIn s.now) there (c.requires c.loop-i.i))

pub loop-i-preserved : goal.loop-i-preserved
loop-i-preserved g c =
    let s = c.args.self.now in
    let i = c.loop-i.i in
    let before = g.R.Rule.before c.args.rule.now in
    let within : i < length (rows_of s.rows) = omega (arith, length-map s.rows (option_map row_of)) in
    let there = row_at s.rows i c.slot-item.result (omega arith) in
    elim c.match-slot.branch [
      | in-Some w ↦
          ap (λ f. front_of before f (model.candidates s.now (i + 1) (drop (i + 1) (rows_of s.rows)))) (ap (option_map candidate_of) w.front-is ∙ w.ahead-front.ensures)
          ∙ front_more before s.now (rows_of s.rows) i (Some (row_of w.in-Some.row)) _ _ within
          (sym (ap (option_map row_of) w.in-Some.is) ∙ there) w.candidate.ensures c.loop-i.invariant
      | in_default w ↦
          ap (λ f. front_of before f (model.candidates s.now (i + 1) (drop (i + 1) (rows_of s.rows)))) (ap (option_map candidate_of) w.front-is)
          ∙ front_empty before s.now (rows_of s.rows) i _ within (sym (ap (option_map row_of) w.in_default.is) ∙ there) c.loop-i.invariant
    ]

pub returns : goal.returns
returns g c =
    let s = c.args.self.now in
    front_all _ s.now c.loop-i.i (rows_of s.rows) _ (omega (arith, length-map s.rows (option_map row_of))) c.loop-i.invariant
