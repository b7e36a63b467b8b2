-- The product of the slots' counts is the number of histories, which bounds each product on the way.
use Rattle.std.proofs.Common.{◌≡◌, ◌*◌, ◌∙◌, arith, rules}
use Rattle.std.proofs.lemmas.Iterator.{YieldsList-from_map, YieldsList-from_slice}
use Rattle.std.proofs.lemmas.Iterator.Adapters.{total_from_yields_List}
use Rattle.std.proofs.lemmas.Iterator.Consumers.{YieldsList-at}
use Rattle.model.specs.Tables.{histories}
use Rattle.model.proofs.Counts.{histories_positive}
use Rattle.streams.specs.Stands.{slots_of}
use Rattle.streams.proofs.Products.{count_in, counts_positive, product_counts, product_fits}
use Rattle.streams.proofs.Slots.{slots_passable}
use Rattle.streams.proofs.table.Table.history_count.Goals as goal

pub product-requires-clause-fits : goal.product-requires-clause-fits
product-requires-clause-fits c =
    let slots = c.args.self.now.slots in
    product_fits c.map.result _
    (YieldsList-from_map _ count_in (YieldsList-at c.map.ensures.source (YieldsList-from_slice slots (cc))) c.map.ensures.closure (λ x r q k. search rules))
    (counts_positive slots)
    (omega (arith, product_counts slots))

pub returns-clause-value : goal.returns-clause-value
returns-clause-value c =
    let slots = c.args.self.now.slots in
    let total : c.product.result ≡ histories (slots_of slots) =
    total_from_yields_List (λ a n. a * n) 1 c.product.result c.product.ensures.ran
    (YieldsList-from_map _ count_in (YieldsList-at c.map.ensures.source (YieldsList-from_slice slots (cc))) c.map.ensures.closure (λ x r q k. search rules))
    ∙ product_counts slots in
    omega (arith, total)

pub returns-clause-some : goal.returns-clause-some
returns-clause-some c = omega (arith, returns-clause-value c, histories_positive (slots_of c.args.self.now.slots) (slots_passable c.args.self.now.slots))
