-- The fold of the slots' periods is the hyper-period, which bounds each multiple on the way.
use Rattle.std.proofs.Common.{sym, subst, ◌∙◌, arith, rules, take}
use Rattle.std.proofs.lemmas.Iterator.{YieldsList-from_slice}
use Rattle.std.proofs.lemmas.Iterator.Consumers.{fold_from_yields_List}
use Rattle.model.specs.Tables.{LeastCommon}
use Rattle.model.proofs.Periods.{hyper_least_common}
use Rattle.streams.specs.Stands.{slots_of}
use Rattle.streams.proofs.Folds.{serves_fold}
use Rattle.streams.proofs.Periods.{joint, joint_positive, joint_within, joint_slots, slot_within, with_slot}
use Rattle.streams.proofs.Slots.{slots_periodic}
use Rattle.streams.proofs.table.Table.hyper_period.Goals as goal

pub fold-requires-clause-callable : goal.fold-requires-clause-callable
fold-requires-clause-callable c =
    let slots = c.args.self.now.slots in
    serves_fold (λ y. y.now) with_slot (tt {0}) _ (λ n x q r. search rules) _ 1 (YieldsList-from_slice slots (cc))
    (λ k x l e. (
      joint_positive 1 (take k slots) (omega arith),
      slot_within (joint 1 (take k slots)) x.now 36864 (omega (arith, joint_within 1 k slots x.now (omega arith) l e, joint_slots slots)),
    ))

pub returns-clause-value : goal.returns-clause-value
returns-clause-value c =
    let slots = c.args.self.now.slots in
    fold_from_yields_List _ with_slot 1 c.fold.result c.fold.ensures.ran (YieldsList-from_slice slots (cc)) (λ a x b q k. search rules)
    ∙ joint_slots slots

pub returns-clause-least : goal.returns-clause-least
returns-clause-least c =
    let slots = c.args.self.now.slots in
    subst (LeastCommon (slots_of slots)) (sym (returns-clause-value c)) (hyper_least_common (slots_of slots) (slots_periodic slots))
