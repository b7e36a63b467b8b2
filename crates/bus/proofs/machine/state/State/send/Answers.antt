use Rattle.std.proofs.Common.{◌≡◌, ◌<◌, length, set, None, ap, ◌∙◌, arith, rules}
use Rattle.std.specs.Option.{option_map}
use Rattle.model.specs.Machine as model
use Rattle.bus.specs.Rows.{row_of, rows_of}
use Rattle.bus.proofs.Writing.{one_slot}
use Rattle.bus.proofs.machine.state.State.send.Goals as goal

pub returns : goal.returns
returns c =
    let s = c.args.self.now in
    let i = c.args.candidate.shown.slot in
    let at : c.from-slot.result ≡ i = c.from-slot.ensures ∙ c.slot.ensures in
    let within : c.from-slot.result < length s.rows = omega arith in
    let sent : option_map row_of c.map.result ≡ option_map (model.with_waiting None) (option_map row_of c.index-self-slot.result) = search rules in
    let rows : rows_of (set s.rows c.from-slot.result c.map.result) ≡ model.in_slot i (model.with_waiting None) (rows_of s.rows) =
    one_slot (model.with_waiting None) s.rows _ _ _ within (sent ∙ ap (λ o. option_map (model.with_waiting None) (option_map row_of o)) c.index-self-slot.is)
    ∙ ap (λ k. model.in_slot k (model.with_waiting None) (rows_of s.rows)) at in
    cc
