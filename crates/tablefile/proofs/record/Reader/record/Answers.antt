use Rattle.std.proofs.Common.{◌≡◌, not, take, drop, is_some, Ok, Err, sym, ap, ◌∙◌, subst, arith}
use Rattle.std.proofs.lemmas.Result.{err_from_is_err_and}
use Rattle.model.specs.Layout.{cut}
use Rattle.tablefile.proofs.Cuts.{there, missing, cut_unmapped, cut_short, cut_whole, cut_ok}
use Rattle.tablefile.proofs.Parts.{Part, part_missing, part_there}
use Rattle.tablefile.proofs.record.Reader.record.Goals as goal
use Rattle.tablefile.proofs.record.Reader.record.Goals.{In_ok-bytes}

pub returns-in_err-map : goal.returns-in_err-map
returns-in_err-map c =
    let p = err_from_is_err_and c.from_residual.result c.from_residual.ensures.1 in
    rw (p.1, p.2) (cut_unmapped c.args.self.now.file.now c.args.self.now.at (not (is_some c.args.self.now.before)) c.in_err-map.field-0.0 c.in_err-map.ensures)

pub returns-in_err-bytes : goal.returns-in_err-bytes
returns-in_err-bytes c =
    let p = err_from_is_err_and c.from_residual-in_err-bytes.result c.from_residual-in_err-bytes.ensures.1 in
    let none = missing _ _ _ (sym c.ok_or.ensures.value ∙ c.in_err-bytes.was) in
    let short = part_missing c.args.self.now.at c.args.self.now.file.now c.record_len.result (subst (Part c.args.self.now.at c.args.self.now.file.now c.record_len.result) none.0 c.get.ensures.lookup) in
    let len = c.record_len.ensures in
    rw (p.1, p.2)
    (ap Err (none.1 ∙ c.too_short.ensures) ∙ cut_short c.args.self.now.file.now c.args.self.now.at (not (is_some c.args.self.now.before)) c.in_ok-map.map.0 c.in_ok-map.ensures (omega (arith, len, short)))

cutting : (c : In_ok-bytes) → Ok c.in_ok-bytes.bytes.now ≡ cut c.args.self.now.file.now c.args.self.now.at (not (is_some c.args.self.now.before))
cutting c =
    let file = c.args.self.now.file.now in
    let some = there _ _ _ (sym c.ok_or.ensures.value ∙ c.in_ok-bytes.was) in
    let part = part_there c.args.self.now.at c.args.self.now.file.now c.record_len.result c.in_ok-bytes.bytes (subst (Part c.args.self.now.at c.args.self.now.file.now c.record_len.result) some c.get.ensures.lookup) in
    let len = c.record_len.ensures in
    ap Ok (part.1 ∙ ap (λ n. take n (drop c.args.self.now.at file)) len)
    ∙ cut_whole file c.args.self.now.at (not (is_some c.args.self.now.before)) c.in_ok-map.map.0 c.in_ok-map.ensures (omega (arith, len, part.0))

pub invariant_of-result : goal.invariant_of-result
invariant_of-result c = record { whole = (cut_ok _ _ _ _ (sym (cutting c))).sized }

pub returns : goal.returns
returns c = cutting (goal.at.returns c).In_ok-bytes
