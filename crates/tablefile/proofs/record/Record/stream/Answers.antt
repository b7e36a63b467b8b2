use Rattle.std.proofs.Common.{◌∙◌}
use Rattle.model.specs.Layout.{spells}
use Rattle.tablefile.proofs.Wide.{stream_same}
use Rattle.tablefile.proofs.record.Record.stream.Goals as goal

pub returns : goal.returns
unfolding spells
returns c =
    let n = c.numbers.ensures in
    c.new.ensures ∙ stream_same _ _ _ _ _ _ _ _ _ _ _ _ n.period n.deadline n.service n.m n.k n.history
