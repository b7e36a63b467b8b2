-- At most one answer tells what the schedule does. Assumes nothing.
use Rattle.std.proofs.Common.{◌≡◌, ℕ, suc, ◌-◌, ◌<◌, ◌≤◌, Bool, Some, sym, ap, ◌∙◌, subst, ap₂, inl, inr, mul-le-mul_right, suc-mul, arith}
use Rattle.std.proofs.lemmas.Bool.{cases_lt, cases_order}
use Rattle.model.specs.Streams.{Stream}
use Rattle.model.specs.Ready.{Ready}
use Rattle.model.specs.Machine.{Row, State, born, due}
use Rattle.model.specs.Schedule.{given}
use Rattle.model.specs.Tally.{Failure}
use Rattle.model.specs.Forecast.{Failing, Fails}
use Rattle.laws.specs.Sound.{LawfulStream, row_at, stream_at, Sound}
use Rattle.laws.specs.Runs.{Timely}
use Rattle.laws.proofs.Slots.{mapped_some}
use Rattle.laws.proofs.Accounts.{timely_run}
use Rattle.model.specs.Forecast.{Answer, Tells}
use Rattle.model.specs.Forecast.Answer.{holds, fails}
use Rattle.promise.proofs.Failures.{all_nth, never_or_failing}
use Rattle.promise.proofs.Runs.{quiet, all_ran}

-- a later frame is not released before an earlier one is due
later_frame : (f : Stream) (j k : ℕ) → LawfulStream f → 1 ≤ j → j < k → due f j ≤ born f k
unfolding born
later_frame f j k l some less =
    let T : ℕ = f.period in
    let next : suc (j - 1) ≤ k - 1 = omega arith in
    omega (arith, mul-le-mul_right T next, suc-mul (j - 1) T, l.deadline_fits)

-- an instant after the release of a frame and by its deadline tells the frame
same_frame : (f : Stream) (u j k : ℕ) → LawfulStream f → 1 ≤ j → 1 ≤ k → born f j < u → u ≤ due f j → born f k < u → u ≤ due f k → j ≡ k
same_frame f u j k l js ks jb jd kb kd = elim (cases_order j k) [
  | inl same ↦ same
  | inr (inl less) ↦ absurd (omega (arith, later_frame f j k l js less))
  | inr (inr more) ↦ absurd (omega (arith, later_frame f k j l ks more))
]

module _ (before : Ready → Ready → Bool) (s : State) (h : Sound s) where
  timely_failing : (f : Failure) (g : Failing before s f) → Timely (stream_at s) g.outcome
  timely_failing f g =
      let n : ℕ = g.units in
      all_nth (Timely (stream_at s)) (given before s n) g.place g.outcome
      (all_ran before (Timely (stream_at s)) s (suc n) (timely_run before s (quiet (suc n)) h) n (omega arith)) g.given_there

  -- two failures of one slot at one instant are of one frame
  frames_same : (f g : Failure) → Failing before s f → Failing before s g → f.slot ≡ g.slot → f.instant ≡ g.instant → f.frame ≡ g.frame
  frames_same f g a b slots instants =
      let x : Timely (stream_at s) a.outcome = timely_failing f a in
      let y : Timely (stream_at s) b.outcome = timely_failing g b in
      let m = mapped_some (λ (r : Row). r.stream) (row_at s.rows a.outcome.slot) x.stream x.of_slot in
      let lawful : LawfulStream x.stream = subst LawfulStream m.2 (h.rows a.outcome.slot m.0 m.1).lawful in
      let there : a.outcome.slot ≡ b.outcome.slot = sym a.slot ∙ slots ∙ b.slot in
      let then : a.outcome.instant ≡ b.outcome.instant = sym a.instant ∙ instants ∙ b.instant in
      let some : Some y.stream ≡ Some x.stream = sym y.of_slot ∙ ap (stream_at s) (sym there) ∙ x.of_slot in
      let same : y.stream ≡ x.stream = cc in
      let u : ℕ = a.outcome.instant in
      let k : ℕ = b.outcome.frame in
      let after_release : born x.stream k < u = omega (arith, y.after_release, then, ap (λ z. born z k) same) in
      let by_deadline : u ≤ due x.stream k = omega (arith, y.by_deadline, then, ap (λ z. due z k) same) in
      a.frame
      ∙ same_frame x.stream u a.outcome.frame k lawful x.numbered y.numbered x.after_release x.by_deadline after_release by_deadline
      ∙ sym b.frame

  first_same : (f g : Failure) → Fails before s f → Fails before s g → f ≡ g
  first_same f g a b =
      let both : (f.instant ≡ g.instant) × (f.slot ≡ g.slot) = elim (a.first g b.is) [
        | inl less ↦ elim (b.first f a.is) [ inl more ↦ absurd (omega (arith, less, more)) | inr (same, _) ↦ absurd (omega (arith, less, same)) ]
        | inr (same, low) ↦ elim (b.first f a.is) [
          | inl more ↦ absurd (omega (arith, same, more))
          | inr (_, high) ↦ (same, omega (arith, low, high))
        ]
      ] in
      let frames : f.frame ≡ g.frame = frames_same f g a.is b.is both.1 both.0 in
      λ i. record { slot = both.1 i; frame = frames i; instant = both.0 i }

  pub one_answer : (a b : Answer) → Tells before s a → Tells before s b → a ≡ b
  one_answer (holds i j) (holds k l) x y = elim (cases_lt l j) [
    | inl less ↦
        let p = x.only k l y.apart (omega arith) y.agree in ap₂ holds (sym p.0) (sym p.1)
    | inr le ↦ let p = y.only i j x.apart le x.agree in ap₂ holds p.0 p.1
  ]
  one_answer (holds i j) (fails f) x y = absurd (never_or_failing before s x.never f y.is)
  one_answer (fails f) (holds i j) x y = absurd (never_or_failing before s y.never f x.is)
  one_answer (fails f) (fails g) x y = ap fails (first_same f g x y)
