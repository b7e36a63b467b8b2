use Rattle.std.proofs.Common.{◌≡◌, ◌<◌, length, None, Ok, Err, sym, refl, ap, ◌∙◌, rules}
use Rattle.std.proofs.lemmas.Result.{err_from_is_err_and}
use Rattle.tablefile.proofs.Spelled.{exact}
use Rattle.tablefile.proofs.Steps.{slots_none, judged_none, judged_fault, judged_more, judged_whole}
use Rattle.tablefile.proofs.reading.read.Goals as goal

pub returns-in_default : goal.returns-in_default
returns-in_default c =
    let none : length c.args.file.now ≡ 0 = search rules in
    let v = ap Err c.too_short.ensures ∙ sym (judged_none c.args.file.now none) in record { value = v; exactly = exact c.args.file.now _ v }

pub lay_all-requires : goal.lay_all-requires
lay_all-requires c =
    record { map = refl; fresh = slots_none c.args.file.now ∙ ap (λ t. Ok (record { place = 1; before = None; table = t })) (sym c.empty.ensures) }

pub returns-in_err-lay_all : goal.returns-in_err-lay_all
returns-in_err-lay_all c =
    let p = err_from_is_err_and c.from_residual.result c.from_residual.ensures.1 in
    let some : 0 < length c.args.file.now = search rules in
    let v = sym (judged_fault c.args.file.now _ some c.in_err-lay_all.ensures.cases) in
    rw (p.1, p.2) record { value = v; exactly = exact c.args.file.now _ v }

pub returns-then-reader-file : goal.returns-then-reader-file
returns-then-reader-file c =
    let some : 0 < length c.args.file.now = search rules in
    let v = ap Err c.at.ensures ∙ sym (judged_more c.args.file.now _ some c.in_ok-lay_all.ensures.cases c.if-reader-file.true) in record { value = v; exactly = exact c.args.file.now _ v }

pub returns : goal.returns
returns c =
    let some : 0 < length c.args.file.now = search rules in
    let v = sym (judged_whole c.args.file.now _ some c.in_ok-lay_all.ensures.cases c.if-reader-file.false) in record { value = v; exactly = exact c.args.file.now _ v }
