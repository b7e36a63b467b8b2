use Rattle.std.proofs.Common.{set, None, Ok, ap, ◌∙◌}
use Rattle.model.proofs.Changes.{limits_cleared}
use Rattle.refusal.specs.Tests.{and_then}
use Rattle.std.proofs.lemmas.List.{map-set}
use Rattle.streams.specs.Stands.{slot_of}
use Rattle.streams.specs.Tables.{table_of}
use Rattle.streams.proofs.Written.{table_sound, table_limits, written}
use Rattle.streams.proofs.table.Table.without.Goals as goal

pub invariant_of-result : goal.invariant_of-result
invariant_of-result c =
    let t = c.args.self.now in
    let i = c.args.slot in
    let h = written t i None (limits_cleared (table_of t) i (table_sound t) (table_limits t)) in
    record { eight = h.eight; short = h.short; few = h.few }

pub returns : goal.returns
returns c =
    let t = c.args.self.now in
    let i = c.args.slot in
    ap Ok (map-set slot_of t.slots i None) ∙ ap (λ r. and_then r (λ _. Ok (set (table_of t) i None))) c.in_ok-taken.ensures
