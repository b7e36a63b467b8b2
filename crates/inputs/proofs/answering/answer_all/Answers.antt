use Rattle.std.proofs.Common.{◌≡◌, ◌<◌, length, string_bytes, IfOk, IfSome, subst, refl, rules}
use Rattle.std.specs.Io.BufRead.{first_line, DropsThrough}
use Rattle.std.specs.Io.Iter.{lines_known_bytes}
use Rattle.inputs.specs.Answers.{Gives}
use Rattle.inputs.proofs.Reached.{goes_on, finishes}
use Rattle.inputs.proofs.answering.answer_all.Goals as goal

pub loop-line-preserved : goal.loop-line-preserved
loop-line-preserved g c =
    let known = lines_known_bytes g.B.Read.remaining in
    let piece : IfSome (known c.loop-line.line-iterator) (λ xs. 0 < length xs × string_bytes c.in_ok-line.field-0 ≡ first_line xs) × DropsThrough (known c.loop-line.line-iterator) (known c.next.new.self) 10 =
    subst
    (λ i. IfOk i (λ x. IfSome (known c.loop-line.line-iterator) (λ xs. (0 < length xs) × (string_bytes x ≡ first_line xs)) × DropsThrough (known c.loop-line.line-iterator) (known c.next.new.self) 10))
    c.in_ok-line.was c.in-Some.ensures.steps.1 in
    let gives : Gives g.F.Fn c.args.answer c.args.heap c.in_ok-input.input.items (string_bytes c.in_ok-answer.field-0) =
    record { shown = c.deref.result; shows = search rules; told = c.in_ok-answer.field-0; says = record { met = search rules }; is = refl } in
    goes_on _ _ _ _ _ (string_bytes c.in_ok-line.field-0) c.in_ok-input.input.items (string_bytes c.in_ok-answer.field-0) _ _ c.loop-line.invariant piece.0 piece.1
    (search rules) gives (search rules)

pub returns : goal.returns
returns g c = finishes _ _ _ _ _ c.loop-line.invariant c.in-None.ensures.steps.1
