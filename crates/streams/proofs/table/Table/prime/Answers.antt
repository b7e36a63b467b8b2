use Rattle.std.proofs.Common.{◌≡◌, set, Some, Ok, sym, ap, ◌∙◌, subst}
use Rattle.model.proofs.Changes.{limits_primed, primed_ok}
use Rattle.model.proofs.Limits.{Limits}
use Rattle.model.specs.Bench.{primed}
use Rattle.std.proofs.lemmas.List.{map-set}
use Rattle.refusal.specs.Tests.{done, kept}
use Rattle.streams.specs.Stands.{slot_of, stream_of}
use Rattle.streams.specs.Tables.{table_of}
use Rattle.streams.proofs.Written.{table_limits, written}
use Rattle.streams.proofs.table.Table.prime.Goals as goal

pub invariant_of-self : goal.invariant_of-self
invariant_of-self c =
    let t = c.args.self.now in
    let i = c.args.slot in
    let u = c.in_ok-with_history.field-0 in
    let is = c.in_ok-stream.ensures in
    let e = (primed_ok (table_of t) i c.args.history _ (stream_of u) is c.in_ok-with_history.ensures).0 in
    let h =
    written t i (Some u)
    (subst (λ s. Limits (set (table_of t) i (Some s))) (sym e) (limits_primed (table_of t) i c.args.history _ (sym is) (table_limits t))) in
    record { eight = h.eight; short = h.short; few = h.few }

pub returns : goal.returns
returns c =
    let t = c.args.self.now in
    let i = c.args.slot in
    let u = c.in_ok-with_history.field-0 in
    let e : primed (table_of t) i c.args.history ≡ Ok (set (table_of t) i (Some (stream_of u))) =
    (primed_ok (table_of t) i c.args.history _ (stream_of u) c.in_ok-stream.ensures c.in_ok-with_history.ensures).1 in
    record { answer = ap done (sym e); table = map-set slot_of t.slots i (Some u) ∙ ap (kept (table_of t)) (sym e) }
