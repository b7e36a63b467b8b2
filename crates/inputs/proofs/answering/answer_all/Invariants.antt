use Rattle.std.specs.Io.Iter.{lines_known_bytes}
use Rattle.inputs.specs.Answers.{Gives}
use Rattle.inputs.proofs.Reached.{Progress}
use Rattle.inputs.proofs.answering.answer_all.Given as goal

abbrev pub invariant-loop-line : goal.invariant-loop-line
invariant-loop-line g l =
    Progress (Gives g.F.Fn l.fn.answer l.fn.heap) (g.B.Read.remaining l.fn.given) (g.W.Write.contents l.fn.told) (lines_known_bytes g.B.Read.remaining l.line-iterator) (g.W.Write.contents l.told)
