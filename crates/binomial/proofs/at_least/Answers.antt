-- A part of the row adds up to the sum, and the sums count. Assumes nothing.
use Rattle.std.proofs.Common.{◌≡◌, ◌∙◌, ℕ, ◌+◌, ◌-◌, ◌<◌, ◌≤◌, ◌^◌, ◌⊎◌, List, [], Some, None, Option, Bor, inl, inr, length, get_or, sum, unwrap_or, sym, refl, ap, arith}
use Rattle.std.specs.List.{PartBy}
use Rattle.std.proofs.lemmas.Fn.{fronts}
use Rattle.std.proofs.lemmas.Iterator.{YieldsList, YieldsList-from_slice}
use Rattle.std.proofs.lemmas.Iterator.Consumers.{fits_from_yields_list, sum_from_yields_List}
use Rattle.std.proofs.lemmas.Bool.{cases_lt}
use Rattle.std.proofs.lemmas.Bool.Decides.{nat_tests}
use Rattle.std.proofs.lemmas.List.{get_or_past, get_or-take, get_or-drop}
use Rattle.binomial.specs.Choose.{choose, at_least}
use Rattle.binomial.proofs.Sums.{choose_past, at_least_past, rest_sums}
use Rattle.binomial.proofs.Triangle.{row_chooses}
use Rattle.binomial.proofs.Counts.{counts, at_least_small}
use Rattle.binomial.proofs.at_least.Goals as goal
use Rattle.binomial.proofs.at_least.Goals.{After-iter}

-- what a row of coefficients lends from place m up to place k, or nothing, adds up to the sum
part_sums :
    (o : Option (Bor (List ℕ))) (nothing : Bor (List ℕ)) (xs : List ℕ) (k m : ℕ) → k < length xs → ((j : ℕ) → get_or xs j 0 ≡ choose k j)
    → nothing.now ≡ [] → PartBy (λ (x : Bor (List ℕ)). x.now) xs m (k + 1) o → sum (unwrap_or o nothing).now ≡ at_least k m
part_sums None nothing xs k m l each e p = ap sum e ∙ sym (at_least_past k m (past p.0))
  where
    past : (k + 1 < m) ⊎ (length xs < k + 1) → k < m
    past (inl h) = omega (arith, h)
    past (inr h) = absurd (omega (arith, h, l))
part_sums (Some x) nothing xs k m l each e p = rest_sums k x.now m (λ j. by j (cases_lt j (k + 1 - m))) (omega (arith, p.0.3))
  where
    by : (j : ℕ) → (j < k + 1 - m) ⊎ (k + 1 - m ≤ j) → get_or x.now j 0 ≡ choose k (m + j)
    by j (inl h) = ap (λ ys. get_or ys j 0) p.0.2 ∙ get_or-take _ _ j 0 h ∙ get_or-drop m xs j 0 ∙ each (m + j)
    by j (inr h) = get_or_past x.now j 0 (omega (arith, p.0.3)) ∙ sym (choose_past k (m + j) (omega (arith, h)))

within : (c : After-iter) → c.args.k ≤ 16
within c = omega (arith, c.in_ok-row.ensures.lookup.3.0)

total : (c : After-iter) → sum c.unwrap_or-terms.result.now ≡ at_least c.args.k c.args.m
total c =
    let row = c.in_ok-row.row.now in
    let is = c.in_ok-row.ensures.lookup.3.1 (record { entries = [] }) in
    ap (λ (o : Bor (List ℕ)). sum o.now) c.unwrap_or-terms.ensures
    ∙ part_sums c.get-2.result _ row.entries c.args.k c.args.m (omega (arith, within c))
    (λ j. row_chooses c.table.result.now c.table.ensures c.args.k j row (within c) (omega arith) is) refl c.get-2.ensures.lookup

-- the items that are added up
terms : (c : After-iter) → YieldsList fronts (λ y. y.now) c.iter.result c.unwrap_or-terms.result.now
terms c = YieldsList-from_slice c.unwrap_or-terms.result.now c.iter.ensures.rest

pub sum-requires-clause-fits : goal.sum-requires-clause-fits
sum-requires-clause-fits c =
    let small : sum c.unwrap_or-terms.result.now < 2 ^ 32 = omega (arith, total c, at_least_small c.args.k c.args.m (within c)) in
    fits_from_yields_list c.iter.result _ (terms c) small

pub returns-clause-sum : goal.returns-clause-sum
returns-clause-sum c =
    let before = (goal.at.returns-clause-sum c).After-iter in
    let e : c.sum.result ≡ sum c.unwrap_or-terms.result.now = sum_from_yields_List c.iter.result _ c.sum.ensures.ran (terms before) in
    let t = total before in
    let w = within before in
    grind (arith, nat_tests)

pub returns-clause-counted : goal.returns-clause-counted
returns-clause-counted c = counts

pub returns-in_err-row-clause-counted : goal.returns-in_err-row-clause-counted
returns-in_err-row-clause-counted c = counts
