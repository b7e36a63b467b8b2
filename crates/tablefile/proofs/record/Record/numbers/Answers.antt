use Rattle.std.proofs.Common.{◌≡◌, ℕ, ◌-◌, ◌^◌, ◌≤◌, List, length, get_or, take, drop, ap, ◌∙◌, arith, rules}
use Rattle.model.specs.Fields.{start, value, extent}
use Rattle.tablefile.proofs.Parts.{behind}
use Rattle.tablefile.proofs.Walk.{At, onward, room, reads}
use Rattle.tablefile.proofs.record.Record.numbers.Goals as goal
use Rattle.tablefile.proofs.record.Record.numbers.Goals.{After-field-period, After-field-service, After-field-deadline, After-field-k, After-field-m}

some : (r : List ℕ) → length r ≡ extent (get_or r 0 0) → 1 ≤ length r
unfolding start
some r whole = omega arith

-- behind the field map the first field begins, and behind each field the next
at_period : (r : List ℕ) → At r 0 (take (length r - 1) (drop 1 r))
unfolding start
at_period r = behind 1 r

at_service : (c : After-field-period) → At c.args.self.now.bytes.now 1 c.field-period.result.1.now
at_service c = onward c.args.self.now.bytes.now 0 _ _ (at_period c.args.self.now.bytes.now) c.field-period.ensures.rest

at_deadline : (c : After-field-service) → At c.args.self.now.bytes.now 2 c.field-service.result.1.now
at_deadline c = onward c.args.self.now.bytes.now 1 _ _ (at_service (goal.at.After-field-service c).After-field-period) c.field-service.ensures.rest

at_k : (c : After-field-deadline) → At c.args.self.now.bytes.now 3 c.field-deadline.result.1.now
at_k c = onward c.args.self.now.bytes.now 2 _ _ (at_deadline (goal.at.After-field-deadline c).After-field-service) c.field-deadline.ensures.rest

at_m : (c : After-field-k) → At c.args.self.now.bytes.now 4 c.field-k.result.1.now
at_m c = onward c.args.self.now.bytes.now 3 _ _ (at_k (goal.at.After-field-k c).After-field-deadline) c.field-k.ensures.rest

at_history : (c : After-field-m) → At c.args.self.now.bytes.now 5 c.field-m.result.1.now
at_history c = onward c.args.self.now.bytes.now 4 _ _ (at_m (goal.at.After-field-m c).After-field-k) c.field-m.ensures.rest

pub unreachable-requires : goal.unreachable-requires
unreachable-requires c = let h = some c.args.self.now.bytes.now c.args.self.now.whole in search rules

pub field-period-requires : goal.field-period-requires
field-period-requires c = room c.args.self.now.bytes.now 0 _ (omega arith) c.args.self.now.whole (at_period c.args.self.now.bytes.now)

pub field-service-requires : goal.field-service-requires
field-service-requires c = room c.args.self.now.bytes.now 1 _ (omega arith) c.args.self.now.whole (at_service (goal.at.field-service-requires c).After-field-period)

pub field-deadline-requires : goal.field-deadline-requires
field-deadline-requires c = room c.args.self.now.bytes.now 2 _ (omega arith) c.args.self.now.whole (at_deadline (goal.at.field-deadline-requires c).After-field-service)

pub field-k-requires : goal.field-k-requires
field-k-requires c = room c.args.self.now.bytes.now 3 _ (omega arith) c.args.self.now.whole (at_k (goal.at.field-k-requires c).After-field-deadline)

pub field-m-requires : goal.field-m-requires
field-m-requires c = room c.args.self.now.bytes.now 4 _ (omega arith) c.args.self.now.whole (at_m (goal.at.field-m-requires c).After-field-k)

pub field-history-requires : goal.field-history-requires
field-history-requires c = room c.args.self.now.bytes.now 5 _ (omega arith) c.args.self.now.whole (at_history (goal.at.field-history-requires c).After-field-m)

pub returns : goal.returns
returns c =
    let r = c.args.self.now.bytes.now in
    let now = goal.at.returns c in
    let period = reads r 0 _ _ _ (at_period r) c.field-period.ensures.value in
    let k = reads r 3 _ _ _ (at_k now.After-field-deadline) c.field-k.ensures.value in
    record {
      period = period;
      service = reads r 1 _ _ _ (at_service now.After-field-period) c.field-service.ensures.value;
      deadline = reads r 2 _ _ _ (at_deadline now.After-field-service) c.field-deadline.ensures.value ∙ ap (value r 2) period;
      k = k;
      m = reads r 4 _ _ _ (at_m now.After-field-k) c.field-m.ensures.value ∙ ap (value r 4) k;
      history = λ small.
          reads r 5 _ _ _ (at_history now.After-field-m) c.field-history.ensures.value
          ∙ ap (value r 5) (c.all_met.ensures small ∙ ap (λ n. 2 ^ n - 1) k);
    }
