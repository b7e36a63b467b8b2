use Rattle.std.proofs.Common.{◌≡◌, drop}
use Rattle.std.specs.Option.{option_map}
use Rattle.model.specs.Machine.{candidates, front}
use Rattle.bus.specs.Rows.{rows_of}
use Rattle.bus.specs.Waiting.{candidate_of}
use Rattle.bus.proofs.Choosing.{front_of}
use Rattle.bus.proofs.machine.state.State.front.Given as goal

abbrev pub invariant-loop-i : goal.invariant-loop-i
invariant-loop-i g l =
    let before = g.R.Rule.before l.rule in
    let rows = rows_of l.self.rows in
    front_of before (option_map candidate_of l.front) (candidates l.self.now l.i (drop l.i rows)) ≡ front before (candidates l.self.now 0 rows)
