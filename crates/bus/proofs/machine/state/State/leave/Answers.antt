use Rattle.std.proofs.Common.{◌≡◌, ℕ, ◌<◌, not, [], ◌∷◌, length, get_or, Some, None, Option, sym, ap, ◌∙◌, arith}
use Rattle.std.specs.Option.{option_map}
use Rattle.model.specs.Machine as model
use Rattle.model.specs.Tally.{tally}
use Rattle.laws.proofs.Leaving as laws
use Rattle.laws.proofs.Leaving.{leave_none, leave_later, leave_then}
use Rattle.bus.specs.Endings.{told_of}
use Rattle.bus.specs.Rows.{row_of, rows_of, transit_of}
use Rattle.bus.specs.States.{standing}
use Rattle.bus.proofs.Telling.{told_none}
use Rattle.bus.proofs.Writing.{row_at, one_slot, empty_slot}
use Rattle.bus.specs.declared.machine.row.Row.{Row}
use Rattle.bus.specs.declared.machine.state.State.{State}
use Rattle.bus.specs.declared.machine.transit.Transit.{Transit}
use Rattle.bus.proofs.machine.state.State.leave.Goals as goal

pub returns-in_err-transit-clause-state : goal.returns-in_err-transit-clause-state
returns-in_err-transit-clause-state c =
    sym (leave_none (standing c.args.self.now) (ap (option_map transit_of) c.in_err-transit.was)).0

pub returns-in_err-transit-clause-told : goal.returns-in_err-transit-clause-told
returns-in_err-transit-clause-told c =
    ap told_of c.from_residual.ensures ∙ told_none
    ∙ ap tally (sym (leave_none (standing c.args.self.now) (ap (option_map transit_of) c.in_err-transit.was)).1)

-- the frame in transit stays before its end
stays : (s : State) (t : Transit) → s.transit ≡ Some t → (t.end ≡ s.now → ⊥) → (model.leave (standing s) ≡ standing s) × (model.arrivals (standing s) ≡ [])
stays s t in-transit later = leave_later (standing s) (transit_of t) (ap (option_map transit_of) in-transit) later

pub returns-then-transit-self-clause-state : goal.returns-then-transit-self-clause-state
returns-then-transit-self-clause-state c =
    sym (stays c.args.self.now c.in_ok-transit.transit c.in_ok-transit.was c.if-transit-self.true).0

pub returns-then-transit-self-clause-told : goal.returns-then-transit-self-clause-told
returns-then-transit-self-clause-told c =
    told_none ∙ ap tally (sym (stays c.args.self.now c.in_ok-transit.transit c.in_ok-transit.was c.if-transit-self.true).1)

-- and leaves at its end
leaves :
    (s : State) (t : Transit) → s.transit ≡ Some t → t.end ≡ s.now
    → (model.leave (standing s) ≡ laws.gone (transit_of t) (standing s))
    × (model.arrivals (standing s) ≡ model.outcome_in (get_or (rows_of s.rows) t.slot None) (model.outcome s.now t.slot t.frame (not t.marked)))
leaves s t in-transit ends = leave_then (standing s) (transit_of t) (ap (option_map transit_of) in-transit) ends

-- the frame in transit leaves, with what stands in its slot
gone :
    (s : State) (t : Transit) (i : ℕ) (d : Option Row) (o : Option model.Row) → s.transit ≡ Some t → t.end ≡ s.now → i ≡ t.slot → i < length s.rows
    → option_map row_of (get_or s.rows i d) ≡ o
    → (get_or (rows_of s.rows) t.slot None ≡ o) × (model.arrivals (standing s) ≡ model.outcome_in o (model.outcome s.now t.slot t.frame (not t.marked)))
gone s t i d o in-transit ends at within stands =
    let there : get_or (rows_of s.rows) t.slot None ≡ o =
    ap (λ k. get_or (rows_of s.rows) k None) (sym at) ∙ sym (row_at s.rows i d within) ∙ stands in (
      there,
      (leaves s t in-transit ends).1
          ∙ ap (λ r. model.outcome_in r (model.outcome s.now t.slot t.frame (not t.marked))) there,
    )

pub returns-in_err-row-clause-state : goal.returns-in_err-row-clause-state
returns-in_err-row-clause-state c =
    let s = c.args.self.now in
    let t = c.in_ok-transit.transit in
    let empty = (gone s t _ _ None c.in_ok-transit.was c.if-transit-self.false c.from-slot.ensures (omega arith) (ap (option_map row_of) c.in_err-row.was)).0 in
    ap (λ (rows : model.Rows). record { now = s.now; rows = rows; transit = None }) (empty_slot (model.with_outcome (not t.marked)) (rows_of s.rows) t.slot empty)
    ∙ sym (leaves s t c.in_ok-transit.was c.if-transit-self.false).0

pub returns-in_err-row-clause-told : goal.returns-in_err-row-clause-told
returns-in_err-row-clause-told c =
    let s = c.args.self.now in
    let t = c.in_ok-transit.transit in
    ap told_of c.from_residual-in_err-row.ensures ∙ told_none
    ∙ ap tally (sym (gone s t _ _ None c.in_ok-transit.was c.if-transit-self.false c.from-slot.ensures (omega arith) (ap (option_map row_of) c.in_err-row.was)).1)

pub returns-clause-state : goal.returns-clause-state
returns-clause-state c =
    let s = c.args.self.now in
    let t = c.in_ok-transit.transit in
    let f = model.with_outcome (not t.marked) in
    let within : c.from-slot.result < length s.rows = omega arith in
    ap (λ (rows : model.Rows). record { now = s.now; rows = rows; transit = None })
    (one_slot f s.rows _ c.index-self-slot.result _ within
    (ap Some (c.enter-ended.ensures.row ∙ ap (λ m. model.with_outcome m (row_of c.in_ok-row.row)) c.outcome.ensures)
    ∙ ap (λ o. option_map f (option_map row_of o)) (sym c.in_ok-row.was))
    ∙ ap (λ k. model.in_slot k f (rows_of s.rows)) c.from-slot.ensures)
    ∙ sym (leaves s t c.in_ok-transit.was c.if-transit-self.false).0

pub returns-clause-told : goal.returns-clause-told
returns-clause-told c =
    let s = c.args.self.now in
    let t = c.in_ok-transit.transit in
    let r = row_of c.in_ok-row.row in
    c.enter-ended.ensures.told
    ∙ ap (λ m. tally (model.outcome s.now t.slot t.frame m r ∷ [])) c.outcome.ensures
    ∙ ap tally (sym (gone s t _ _ (Some r) c.in_ok-transit.was c.if-transit-self.false c.from-slot.ensures (omega arith) (ap (option_map row_of) c.in_ok-row.was)).1)
