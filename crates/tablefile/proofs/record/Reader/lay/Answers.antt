use Rattle.std.proofs.Common.{◌≡◌, ℕ, Some, Ok, sym, ap, ◌∙◌}
use Rattle.std.proofs.lemmas.Result.{err_from_is_err_and}
use Rattle.refusal.specs.Tests.{on_ok}
use Rattle.refusal.specs.declared.Layer.TheVariants as layers
use Rattle.model.specs.Tables as model
use Rattle.streams.specs.Stands.{stream_of}
use Rattle.streams.specs.Tables.{table_of}
use Rattle.model.specs.Layout.{Progress, spells}
use Rattle.tablefile.specs.Stands.{progress_of}
use Rattle.tablefile.proofs.Cuts.{cut_ok}
use Rattle.tablefile.proofs.Steps.{through, the_stream, the_table, next_uncut, next_unspelled, next_unplaced, next_laid}
use Rattle.tablefile.proofs.record.Reader.lay.Goals as goal
use Rattle.tablefile.proofs.record.Reader.lay.Goals.{After-at_place, After-at_place-2}

-- what the stream layer answered
streamed : (c : After-at_place) → the_stream c.args.self.now.file.now c.args.slot (progress_of c.args.self.now) c.in_ok-record.record.bytes.now ≡ on_ok stream_of c.at_place.result
streamed c =
    through _ layers.Stream stream_of c.stream.result
    (c.stream.ensures ∙ ap (λ n. spells n c.in_ok-record.record.bytes.now) c.unwrap_or-before.ensures) c.at_place.ensures

-- what the table layer answered
tabled : (c : After-at_place-2) → the_table c.args.self.now.file.now c.args.slot (progress_of c.args.self.now) (stream_of c.in_ok-stream.stream) ≡ on_ok table_of c.at_place-2.result
tabled c =
    through _ layers.Table table_of c.with.result
    (c.with.ensures ∙ ap (λ n. model.placed (table_of c.args.self.now.table) n (stream_of c.in_ok-stream.stream)) c.from.ensures) c.at_place-2.ensures

pub returns-in_err-record-clause-cases : goal.returns-in_err-record-clause-cases
returns-in_err-record-clause-cases c =
    let p = err_from_is_err_and c.from_residual.result c.from_residual.ensures.1 in
    rw (p.1, p.2) (next_uncut _ c.args.slot (progress_of c.args.self.now) _ (sym c.in_err-record.ensures))

pub returns-in_err-stream-clause-cases : goal.returns-in_err-stream-clause-cases
returns-in_err-stream-clause-cases c =
    let p = err_from_is_err_and c.from_residual-in_err-stream.result c.from_residual-in_err-stream.ensures.1 in
    let s = streamed (goal.at.returns-in_err-stream-clause-cases c).After-at_place in
    rw (p.1, p.2)
    (next_unspelled _ c.args.slot (progress_of c.args.self.now) _ _ (sym c.in_ok-record.ensures) (s ∙ ap (on_ok stream_of) c.in_err-stream.was))

pub returns-in_err-self-clause-cases : goal.returns-in_err-self-clause-cases
returns-in_err-self-clause-cases c =
    let p = err_from_is_err_and c.from_residual-in_err-self.result c.from_residual-in_err-self.ensures.1 in
    let s = streamed (goal.at.returns-in_err-self-clause-cases c).After-at_place in
    let t = tabled (goal.at.returns-in_err-self-clause-cases c).After-at_place-2 in
    rw (p.1, p.2)
    (next_unplaced _ c.args.slot (progress_of c.args.self.now) _ (stream_of c.in_ok-stream.stream) _ (sym c.in_ok-record.ensures)
    (s ∙ ap (on_ok stream_of) c.in_ok-stream.was) (t ∙ ap (on_ok table_of) c.in_err-self.was))

pub invariant_of-self : goal.invariant_of-self
invariant_of-self c = record { within = (cut_ok _ _ _ _ (sym c.in_ok-record.ensures)).within }

progress : (place before period : ℕ) (t : model.Table) → before ≡ period → ◌≡◌ {A = Progress} (record { place = place; before = Some before; table = t }) (record { place = place; before = Some period; table = t })
progress place before period t b = cc

pub returns-clause-cases : goal.returns-clause-cases
returns-clause-cases c =
    let s = streamed (goal.at.returns-clause-cases c).After-at_place in
    let t = tabled (goal.at.returns-clause-cases c).After-at_place-2 in
    next_laid _ c.args.slot (progress_of c.args.self.now) _ (stream_of c.in_ok-stream.stream) (table_of c.in_ok-self.field-0) (sym c.in_ok-record.ensures)
    (s ∙ ap (on_ok stream_of) c.in_ok-stream.was) (t ∙ ap (on_ok table_of) c.in_ok-self.was)
    ∙ ap Ok (progress _ _ _ _ (sym (c.from-2.ensures ∙ c.period.ensures)))
