-- What a search finds is the only pair of boundaries that agree up to the later, and the forecast holds with it. Assumes nothing.
use Rattle.std.proofs.Common.{◌≡◌, ℕ, ◌+◌, ◌-◌, ◌*◌, ◌<◌, ◌≤◌, Bool, sym, ap, ◌∙◌, inl, inr, mul-le-mul_left, arith}
use Rattle.std.proofs.lemmas.Bool.{cases_lt}
use Rattle.model.specs.Tables.{histories}
use Rattle.model.specs.Ready.{Ready}
use Rattle.model.specs.Machine.{State}
use Rattle.model.specs.Forecast.{table_of, units_to, at_boundary, Holds}
use Rattle.laws.specs.Sound.{Sound}
use Rattle.rounds.specs.Rounds.{Told, LeastRound}
use Rattle.rounds.proofs.Rounds.{moved_on, again_from, again_times, only_pair}
use Rattle.promise.specs.Boundaries.{Unfailing, AgreeWithin, AgainWithin}
use Rattle.promise.specs.Answers.{Returns, Begins}
use Rattle.promise.proofs.Boundaries.{boundaries_told}
use Rattle.promise.proofs.Passing.{units_rise, some_agree}
use Rattle.promise.proofs.Comes.{never_fails}

-- a value that stands again after lam places stands again after every step after which some value does
pub step_returns : {X : Type 0} (f : ℕ → X) → Told f → (met lam i step : ℕ) → 0 < lam → f met ≡ f (met + lam) → f i ≡ f (i + step) → f met ≡ f (met + step)
step_returns f told met lam i step forward back e =
    let far : ℕ = i * lam in
    let reach : i ≤ far = omega (arith, mul-le-mul_left i forward) in
    let n : ℕ = met + far - i in
    let here : i + n ≡ met + far = omega arith in
    let there : i + step + n ≡ met + step + far = omega arith in
    sym (again_times f told met lam met i (omega arith) back)
    ∙ ap f (sym here) ∙ moved_on f told i (i + step) n e ∙ ap f there
    ∙ again_times f told met lam (met + step) i (omega arith) back

module _ (before : Ready → Ready → Bool) (s : State) (h : Sound s) where
  pub found_least : (met mu lam : ℕ) → Returns before s met lam → Begins before s mu lam → LeastRound (at_boundary before s) mu lam
  found_least met mu lam r b = record {
    forward = r.forward;
    returns = b.again;
    least_step = λ i step some e. elim (cases_lt step lam) [
      | inl less ↦
          absurd (r.no_sooner step some less
          (step_returns (at_boundary before s) (boundaries_told before s h) met lam i step r.forward r.again e))
      | inr le ↦ le
    ];
    least_place = λ i e. elim (cases_lt i mu) [ inl less ↦ absurd (b.no_earlier i less e) | inr le ↦ le ];
  }

  pub least_holds : (mu lam : ℕ) → LeastRound (at_boundary before s) mu lam → Unfailing before s (units_to s (mu + lam)) → Holds before s mu (mu + lam)
  least_holds mu lam least fine =
      let n : ℕ = histories (table_of s) in
      let some : 0 < lam = least.forward in
      let apart : mu < mu + lam = omega arith in
      let only = only_pair (at_boundary before s) (boundaries_told before s h) mu lam least in
      record {
        never = never_fails before s h mu (mu + lam) apart least.returns fine;
        apart = apart;
        agree = least.returns;
        only = only;
        bound = elim (cases_lt (n + 1) (mu + lam)) [
          | inl over ↦
              let r : AgreeWithin before s = some_agree before s h (λ k l. fine k (omega (arith, units_rise s (n + 1) (mu + lam) (omega arith)))) in
              let within : r.second ≤ n + 1 = r.within in
              let pair = only r.first r.second r.apart (omega arith) r.same in
              absurd (omega (arith, pair.1))
          | inr le ↦ le
        ];
      }

  pub found_holds : (met mu lam : ℕ) → Returns before s met lam → Begins before s mu lam → Holds before s mu (mu + lam)
  found_holds met mu lam r b =
      let least : LeastRound (at_boundary before s) mu lam = found_least met mu lam r b in
      let early : mu ≤ met = least.least_place met r.again in
      least_holds mu lam least (λ k l. r.unfailing k (omega (arith, units_rise s (mu + lam) (met + lam) (omega arith))))

  -- from boundary N on the histories of every boundary stand again within N boundaries, if no failure lies before boundary N + 1
  pub returns_within : Unfailing before s (units_to s (histories (table_of s) + 1)) → (met : ℕ) → histories (table_of s) ≤ met → AgainWithin before s met
  returns_within fine met le =
      let r : AgreeWithin before s = some_agree before s h fine in
      let a : ℕ = r.first in
      let b : ℕ = r.second in
      let low : a < b = r.apart in
      let high : b ≤ histories (table_of s) + 1 = r.within in
      let some : 1 ≤ a = r.some in
      let whole : b ≡ a + (b - a) = omega arith in
      record {
        step = b - a;
        forward = omega arith;
        within = omega arith;
        again = sym (again_from (at_boundary before s) (boundaries_told before s h) a (b - a) met (omega arith) (r.same ∙ ap (at_boundary before s) whole));
      }
