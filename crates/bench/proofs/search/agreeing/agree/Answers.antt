use Rattle.std.proofs.Common.{refl, ◌∙◌, rules}
use Rattle.std.proofs.lemmas.Iterator.Search.{all_from_yields_List}
use Rattle.std.proofs.lemmas.Iterator.{YieldsList-from_range}
use Rattle.std.proofs.lemmas.List.{length-map}
use Rattle.bus.specs.Machines.{state_of}
use Rattle.bench.proofs.Agreeing.{agrees, agree_if_all}
use Rattle.bench.proofs.search.agreeing.agree.Goals as goal

pub returns : goal.returns
returns c =
    let a = c.args.a.now in
    let b = c.args.b.now in
    agree_if_all (state_of a) (state_of b) (length-map a.state.rows _ ∙ a.state.eight) (length-map b.state.rows _ ∙ b.state.eight) c.all.result
    (all_from_yields_List (agrees (state_of a) (state_of b)) _ _ _ c.all.ensures.ran (YieldsList-from_range 0 8 8 refl refl)
    (λ x b q called. (search rules, search rules)))
