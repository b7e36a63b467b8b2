-- The coefficient that stands in the row, or the 0 past its last place. Assumes nothing.
use Rattle.std.proofs.Common.{◌≡◌, ◌≤◌, [], get_or, unwrap_or, ap, ◌∙◌, arith}
use Rattle.std.proofs.lemmas.Bool.Decides.{nat_tests}
use Rattle.binomial.proofs.Triangle.{row_chooses}
use Rattle.binomial.proofs.binomial.Goals as goal

pub returns : goal.returns
returns c =
    let row = c.in_ok-row.row.now in
    let within : c.args.n ≤ 16 = omega (arith, c.in_ok-row.ensures.lookup.3.0) in
    let is = row_chooses c.table.result.now c.table.ensures c.args.n c.args.j row within (omega arith) (c.in_ok-row.ensures.lookup.3.1 (record { entries = [] })) in
    let read : c.unwrap_or.result ≡ get_or row.entries c.args.j 0 =
    c.unwrap_or.ensures ∙ ap (λ o. unwrap_or o 0) c.copied.ensures ∙ c.get-2.ensures.lookup.4 (omega arith) 0 in
    grind (arith, nat_tests)
