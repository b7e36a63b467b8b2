use Rattle.std.proofs.Common.{◌≡◌, get_or, Ok, sym, ap, ◌∙◌, arith}
use Rattle.std.proofs.lemmas.Result.{err_from_is_err_and}
use Rattle.model.specs.Fields.{stands}
use Rattle.model.specs.Layout.{next}
use Rattle.tablefile.specs.Stands.{progress_of}
use Rattle.tablefile.proofs.Steps.{slots_skip, slots_next, slots_stay}
use Rattle.tablefile.proofs.record.Reader.lay_all.Goals as goal
use Rattle.tablefile.proofs.record.Reader.lay_all.Goals.{then-has+in_ok-lay, else-has}

pub returns-in_err-lay : goal.returns-in_err-lay
returns-in_err-lay c =
    let p = err_from_is_err_and c.from_residual.result c.from_residual.ensures.1 in
    let file = c.args.self.now.file.now in
    let here = progress_of c.loop-slot.self in
    rw (p.1, p.2)
    record {
      cases =
          slots_stay file _ _ 8 (omega (arith, c.loop-slot-test.true))
          (slots_next file c.loop-slot.slot here c.loop-slot.invariant.0 (ap (λ n. stands n c.loop-slot.slot) (sym c.requires.map) ∙ sym c.has.ensures ∙ c.if-has.true) (ap (λ l. next l c.loop-slot.slot here) (sym c.loop-slot.invariant.1) ∙ c.in_err-lay.ensures.cases));
    }

pub loop-slot-preserved : goal.loop-slot-preserved
loop-slot-preserved c =
    let file = c.args.self.now.file.now in
    let here = progress_of c.loop-slot.self in
    let bit : stands (get_or file 0 0) c.loop-slot.slot ≡ c.has.result = ap (λ n. stands n c.loop-slot.slot) (sym c.requires.map) ∙ sym c.has.ensures in
    elim c.if-has.branch [
      | then-has+in_ok-lay w ↦ (
        slots_next file c.loop-slot.slot here c.loop-slot.invariant.0 (bit ∙ w.if-has.true) (ap (λ l. next l c.loop-slot.slot here) (sym c.loop-slot.invariant.1) ∙ w.in_ok-lay.ensures.cases ∙ ap (λ r. Ok (progress_of r)) (sym w.self-is)),
        ap (λ r. r.file.now) w.self-is ∙ w.in_ok-lay.ensures.file ∙ c.loop-slot.invariant.1,
      )
      | else-has w ↦ (
        slots_skip file c.loop-slot.slot here c.loop-slot.invariant.0 (bit ∙ w.if-has.false) ∙ ap (λ r. Ok (progress_of r)) (sym w.self-is),
        ap (λ r. r.file.now) w.self-is ∙ c.loop-slot.invariant.1,
      )
    ]
