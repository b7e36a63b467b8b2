use Rattle.std.proofs.Common.{◌≡◌, ◌<◌, ◌≤◌, not, length, get_or, is_some, unwrap_or, Err, sym, ap, ◌∙◌, arith, ltb-true, ltb-false, le-leb}
use borrow.Author.Tests.{lt-leb}
use Rattle.std.proofs.lemmas.Result.{err_from_is_err_and}
use Rattle.std.specs.Option.{option_map}
use Rattle.refusal.specs.Tests.{on_ok}
use Rattle.refusal.specs.declared.Layer.TheVariants.{File}
use Rattle.model.specs.Layout.{field_map, located, admitted}
use Rattle.tablefile.specs.declared.fields.Map.{Map}
use Rattle.tablefile.proofs.Cuts.{there, missing}
use Rattle.tablefile.proofs.Steps.{located_on}
use Rattle.tablefile.proofs.record.Reader.field_map.Goals as goal

pub returns-in_err-byte : goal.returns-in_err-byte
unfolding field_map
returns-in_err-byte c =
    let p = err_from_is_err_and c.from_residual.result c.from_residual.ensures.1 in
    let none = missing _ _ _ (sym c.ok_or.ensures.value ∙ c.in_err-byte.was) in
    let past : length c.args.self.now.file.now ≤ c.args.self.now.at = ltb-false _ _ (sym c.get.ensures.lookup.0 ∙ ap is_some none.0) in
    let t = le-leb (length c.args.self.now.file.now) c.args.self.now.at past in
    rw (p.1, p.2) (simp t (ap Err (none.1 ∙ c.too_short.ensures)))

pub returns : goal.returns
unfolding field_map
returns c =
    let file = c.args.self.now.file.now in
    let place = c.args.self.now.at in
    let some = there _ _ _ (sym c.ok_or.ensures.value ∙ c.in_ok-byte.was) in
    let inside : c.args.self.now.at < length c.args.self.now.file.now = ltb-true _ _ (sym c.get.ensures.lookup.0 ∙ ap is_some some) in
    let t = lt-leb (length file) place inside in
    let byte : c.in_ok-byte.byte.now ≡ get_or c.args.self.now.file.now c.args.self.now.at 0 = ap (λ o. unwrap_or (option_map (λ x. x.now) o) 0) (sym some) ∙ c.get.ensures.lookup.4 (omega arith) 0 in
    simp t
    (ap (on_ok (λ (m : Map). m.0)) c.at_place.ensures ∙ located_on place File (λ m. m.0) c.admit.result
    ∙ ap (located place File) (c.admit.ensures ∙ ap (λ b. admitted b (not (is_some c.args.self.now.before))) byte))
