-- Past the second test the slot is empty: the two numbers are those of the table with one stream more.
use Rattle.std.proofs.Common.{Some, arith}
use Rattle.std.proofs.lemmas.Bool.Decides.{nat_tests}
use Rattle.streams.proofs.Slots.{Laid, laid}
use Rattle.streams.proofs.Written.{written}
use Rattle.streams.proofs.table.Table.with.Goals as goal
use Rattle.streams.proofs.table.Table.with.Goals.{Else-is_some}

here : (c : Else-is_some) → Laid c.args.self.now.slots c.args.slot c.args.stream
here c = laid c.args.self.now c.args.slot c.args.stream _ c.if-slot-gt7.false c.stream.ensures c.if-is_some.ensures

pub returns-then-not-hyper_period_fits : goal.returns-then-not-hyper_period_fits
returns-then-not-hyper_period_fits c = let f = here (goal.at.returns-then-not-hyper_period_fits c).Else-is_some in grind (arith, nat_tests)

pub returns-then-not-histories_fit : goal.returns-then-not-histories_fit
returns-then-not-histories_fit c = let f = here (goal.at.returns-then-not-histories_fit c).Else-is_some in grind (arith, nat_tests)

pub invariant_of-result : goal.invariant_of-result
invariant_of-result c =
    let f = here (goal.at.invariant_of-result c).Else-is_some in
    let h = written c.args.self.now c.args.slot (Some c.args.stream) (record { period = grind (arith, nat_tests); few = grind (arith, nat_tests) }) in
    record { eight = h.eight; short = h.short; few = h.few }

pub returns : goal.returns
returns c = let f = here (goal.at.returns c).Else-is_some in grind (arith, nat_tests)
