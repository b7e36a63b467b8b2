-- An input with a known word. Assumes nothing.
use Rattle.std.proofs.Common.{◌≡◌, ℕ, List, ap, ◌∙◌}
use Rattle.refusal.specs.Tests.{and_then}
use Rattle.model.specs.Layout.{judged}
use Rattle.tablefile.proofs.Spelled.{spelled_exactly}
use Rattle.question.proofs.Known.{known}
use Rattle.report.specs.Answers.{Admits, line, printed}

pub admits : (input bytes : List ℕ) → bytes ≡ printed input → Admits input bytes
admits input bytes is r file t begins spelled =
    is ∙ ap printed begins ∙ ap (λ q. line (and_then q (λ q. judged q.1))) (known r file) ∙ ap line ((spelled_exactly file t).1 spelled)
