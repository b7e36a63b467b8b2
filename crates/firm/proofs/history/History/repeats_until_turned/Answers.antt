use Rattle.std.proofs.Common.{◌≡◌, ℕ, ◌+◌, ◌-◌, Bool, sym, refl, ap, ◌∙◌, add-one, arith}
use Rattle.firm.specs.declared.outcome.Outcome.{Outcome}
use Rattle.firm.specs.Histories.{Firm, after, repeated, turned}
use Rattle.firm.specs.Outcomes.{bit}
use Rattle.firm.specs.Searches.{first_from}
use Rattle.firm.specs.Stands.{firm_of}
use Rattle.firm.proofs.Searching.{first_stops, first_goes_on}
use Rattle.firm.proofs.Turning.{after_run, turned_run}
use Rattle.firm.proofs.history.History.repeats_until_turned.Goals as goal

-- what the test of the history at n says of the search
told : (o : Outcome) (n : ℕ) (f g : Firm) (t : Bool) → t ≡ turned o g 0 → g ≡ after_run o n f → turned o f n ≡ t
told o n f g t e run = sym (e ∙ ap (λ (x : Firm). turned o x 0) run ∙ turned_run o n f)

pub loop-n-init : goal.loop-n-init
unfolding repeated
loop-n-init c =
    let all : c.args.self.now.k - 0 ≡ c.args.self.now.k = omega arith in
    (refl, rw all)

pub returns-then-is_turned : goal.returns-then-is_turned
returns-then-is_turned c =
    let here = told c.args.outcome c.loop-n.n (firm_of c.args.self.now) _ _ c.if-is_turned.ensures c.loop-n.invariant.0 in
    sym (c.loop-n.invariant.1 ∙ first_stops _ _ _ (omega arith) here)

pub loop-n-preserved : goal.loop-n-preserved
unfolding repeated
loop-n-preserved c =
    let here = told c.args.outcome c.loop-n.n (firm_of c.args.self.now) _ _ c.if-is_turned.ensures c.loop-n.invariant.0 in
    let left : c.args.self.now.k - (c.loop-n.n + 1) ≡ c.args.self.now.k - c.loop-n.n - 1 = omega arith in
    (rw add-one (c.enter-history.ensures ∙ ap (λ (f : Firm). after f (bit c.args.outcome)) c.loop-n.invariant.0), rw left (c.loop-n.invariant.1 ∙ first_goes_on _ _ _ (omega arith) here))

pub returns : goal.returns
unfolding first_from
returns c =
    let none : c.args.self.now.k - c.loop-n.n ≡ 0 = omega arith in
    sym (c.loop-n.invariant.1 ∙ rw none (omega arith))
