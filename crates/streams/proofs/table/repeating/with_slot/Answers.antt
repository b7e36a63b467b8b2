-- What p and the period give together is no smaller than p.
use Rattle.std.proofs.Common.{◌≤◌, arith}
use Rattle.model.specs.Tables.{lcm}
use Rattle.model.proofs.Multiples.{le_lcm_left}
use Rattle.streams.proofs.Slots.{period_positive}
use Rattle.streams.proofs.table.repeating.with_slot.Goals as goal

pub common_multiple-requires-clause-within : goal.common_multiple-requires-clause-within
common_multiple-requires-clause-within c =
    let p = c.args.p in
    let s = c.in-Some.stream in
    let within : lcm p s.period ≤ 36864 = rw c.in-Some.is at c.requires.within in
    omega (arith, le_lcm_left p s.period c.requires.positive (period_positive s))
