-- What is true of every unit from a sound state. Assumes nothing.
use Rattle.std.proofs.Common.{◌≡◌, ℕ, ◌+◌, ◌<◌, ◌≤◌, Bool, true, false, not, List, length, Some, None, Option, sym, refl, ap, ◌∙◌, subst, inl, inr, arith}
use Rattle.std.specs.List.{AllByRecursion}
use Rattle.std.specs.Option.{option_map}
use Rattle.std.proofs.lemmas.Bool.{ltb-true}
use Rattle.model.specs.Tables.{Divides}
use Rattle.model.specs.Ready.{Ready, Lawful, Total, Chain}
use Rattle.model.specs.Machine.{Row, Transit, State, Candidate, Outcome, due, release, candidate, candidates, front, starting, start, leave, arrivals, outcome, outcome_in, drop, begun, unit}
use Rattle.laws.specs.Sound.{row_at, Waits, stream_at, SoundRow, SoundTransit, SoundAt, Sound}
use Rattle.laws.specs.Units.{ReleaseLaws, shown_of, Starts, StartLaws, after_noise, Arrives, TransitLaws, Dropped, dropped_in}
use Rattle.laws.proofs.Slots.{below_from_some}
use Rattle.laws.proofs.Leaving.{leave_none, leave_later, leave_then, noise_end, begun_transit}
use Rattle.laws.proofs.Dropping.{all_drops}
use Rattle.laws.proofs.Streams.{stream_left}
use Rattle.laws.proofs.Frames.{overdue}
use Rattle.laws.proofs.Candidates.{all_candidates, at_candidates, rising_candidates, front_none, front_leads, Leads}
use Rattle.laws.proofs.Keeping.{WaitsIn, front_waits, release_sound, begun_sound, left_sound, unit_sound, begun_now, leave_now}

-- an option holds nothing if it can hold nothing
none_from : {A : Type 0} (o : Option A) → ((x : A) → o ≡ Some x → ⊥) → o ≡ None
none_from None h = refl
none_from (Some x) h = absurd (h x refl)

-- ---- releases

row_free : (u : ℕ) (r : Row) → SoundRow u u r → Divides r.stream.period u → r.waits ≡ None
row_free u r h d =
    none_from r.waits (λ j w.
    let late : due r.stream j ≤ u = overdue r.stream u j h.lawful d (h.released j w).born_before in
    omega (arith, late, h.in_time j w, h.lawful.service_some))

pub release_laws : (s : State) → Sound s → ReleaseLaws s
release_laws s h = record {
  free = λ i r e d. row_free s.now r (h.rows i r e) d;
  clear = λ all. record {
    none_waits = λ i r e. row_free s.now r (h.rows i r e) (all i r e);
    none_sent = none_from s.transit (λ t e.
        let o = h.occupied t e in
        let r : Row = o.0 in
        let k : SoundTransit s.now s.now t r = h.transit t r e o.1 in
        let late : due r.stream t.frame ≤ s.now =
        overdue r.stream s.now t.frame (h.rows t.slot r o.1).lawful (all t.slot r o.1) k.released.born_before in
        omega (arith, late, k.leaves_after, k.leaves_by));
  };
}

-- ---- the frame that starts

shown_lawful : (s : State) → Sound s → (i : ℕ) (r : Row) (j : ℕ) → Waits (release s) i r j → Lawful (shown_of (release s) i r j)
unfolding release
shown_lawful s h i r j w =
    let sound : SoundAt (s.now + 1) s.now s.now (release s) = release_sound s h in
    let k : SoundRow (s.now + 1) s.now r = sound.rows i r w.0 in
    let below : i < length (release s).rows = below_from_some (release s).rows i r w.0 in
    record {
      slot_low = omega (arith, below, sound.eight);
      service_some = k.lawful.service_some;
      service_fits = k.lawful.service_fits;
      deadline_fits = k.lawful.deadline_fits;
      period_short = k.lawful.period_short;
      required_some = k.lawful.required_some;
      required_most = k.lawful.required_most;
      window_short = k.lawful.window_short;
      bits_fit = k.bits;
      left_enough = omega (arith, k.in_time j w.1);
      left_most = omega (arith, (k.released j w.1).born_before);
    }

starting_none : (o : Option Transit) (s : State) → starting o None s ≡ s
starting_none None s = refl
starting_none (Some t) s = refl

module _ (before : Ready → Ready → Bool) (s : State) where
  queue : List Candidate
  queue = candidates s.now 0 s.rows

  -- some waiting frame has a front
  front_from : (k : ℕ) (q : Row) (l : ℕ) → Waits s k q l → (d : Option Candidate) → front before queue ≡ d → (c : Candidate) × (front before queue ≡ Some c)
  unfolding queue
  front_from k q l w None e =
      absurd (at_candidates (λ _. ⊥) s.now 0 s.rows (front_none (λ _. ⊥) before (candidates s.now 0 s.rows) e) k q l w.0 w.1)
  front_from k q l w (Some c) e = (c, e)

  none_starts : ((k : ℕ) (q : Row) (l : ℕ) → Waits s k q l → ⊥) → (d : Option Candidate) → front before queue ≡ d → start before s ≡ s
  unfolding queue start
  none_starts h None e = ap (λ d. starting s.transit d s) e ∙ starting_none s.transit s
  none_starts h (Some c) e =
      let p : WaitsIn s.now s.rows c = front_waits before s c e in absurd (h c.shown.slot p.0 c.frame (p.1, p.2))

  busy_starts : (t : Transit) → s.transit ≡ Some t → start before s ≡ s
  unfolding start
  busy_starts t e = ap (λ o. starting o (front before (candidates s.now 0 s.rows)) s) e

  -- what starts from an idle bus
  front_starts : Total before → Chain before → ((i : ℕ) (r : Row) (j : ℕ) → Waits s i r j → Lawful (shown_of s i r j)) → s.transit ≡ None
      → (c : Candidate) → front before queue ≡ Some c → (i : ℕ) × (r : Row) × (j : ℕ) × Starts before s i r j
  unfolding queue start
  front_starts total chain lawful idle c e =
      let u : ℕ = s.now in
      let cs : List Candidate = candidates u 0 s.rows in
      let p : WaitsIn u s.rows c = front_waits before s c e in
      let i : ℕ = c.shown.slot in
      let r : Row = p.0 in
      let starts : start before s ≡ starting None (Some c) s =
      ap (λ o. starting o (front before cs) s) idle ∙ ap (λ d. starting None d s) e in
      let C : c.shown.service ≡ r.stream.service = ap (λ (x : Candidate). x.shown.service) p.3 in
      let all_lawful : AllByRecursion (λ (d : Candidate). Lawful d.shown) cs =
      all_candidates (λ d. Lawful d.shown) u 0 s.rows (λ k q l k-at k-waits.
      let at : k ≡ 0 + k = omega arith in
      subst (λ n. Lawful (candidate u n q l).shown) at (lawful k q l (k-at, k-waits))) in
      let led : AllByRecursion (Leads before c) cs = front_leads before total chain cs c e all_lawful (rising_candidates u 0 s.rows) in (
        i,
        r,
        c.frame,
        record {
          waited = (p.1, p.2);
          sent = ap (λ (x : State). x.transit) starts
              ∙ ap (λ n. Some (record { slot = i; frame = c.frame; end = u + n; marked = false })) C;
          taken = ap (λ (x : State). x.rows) starts;
          first = λ k q l w apart.
              let at : 0 + k ≡ k = omega arith in
              let one : Leads before c (candidate u k q l) =
              subst (λ n. Leads before c (candidate u n q l)) at (at_candidates (Leads before c) u 0 s.rows led k q l w.0 w.1) in
              elim one [
                | inl same ↦ absurd (apart (ap (λ (x : Candidate). x.shown.slot) same))
                | inr goes ↦ subst (λ (x : Candidate). before x.shown (shown_of s k q l) ≡ true) p.3 goes.1
              ];
        },
      )

pub start_laws : (before : Ready → Ready → Bool) → Total before → Chain before → (s : State) → Sound s → StartLaws before s
unfolding release queue
start_laws before total chain s h =
    let lawful : (i : ℕ) (r : Row) (j : ℕ) → Waits (release s) i r j → Lawful (shown_of (release s) i r j) = shown_lawful s h in
    record {
      lawful = lawful;
      starts = λ idle k q l w.
          let c = front_from before (release s) k q l w (front before (queue before (release s))) refl in
          front_starts before (release s) total chain lawful idle c.0 c.1;
      waitless = λ none. none_starts before (release s) none (front before (queue before (release s))) refl;
      busy = λ t e. busy_starts before (release s) t e;
    }

-- ---- the frame in transit

module _ (before : Ready → Ready → Bool) (s : State) where
  -- what starts from an idle bus is sent for its service time
  sent_for : (t : Transit) → s.transit ≡ None → (start before s).transit ≡ Some t → (d : Option Candidate) → front before (candidates s.now 0 s.rows) ≡ d
      → (r : Row) × Waits s t.slot r t.frame × (t.end ≡ s.now + r.stream.service) × (t.marked ≡ false)
  unfolding start
  sent_for t idle sent None e =
      let none : (starting s.transit (front before (candidates s.now 0 s.rows)) s).transit ≡ None =
      ap (λ d. (starting s.transit d s).transit) e ∙ ap (λ (x : State). x.transit) (starting_none s.transit s) ∙ idle in
      absurd (let z : ◌≡◌ {A = ℕ} 0 1 = cc in omega arith)
  sent_for t idle sent (Some c) e =
      let u : ℕ = s.now in
      let p : WaitsIn u s.rows c = front_waits before s c e in
      let new : Transit = record { slot = c.shown.slot; frame = c.frame; end = u + c.shown.service; marked = false } in
      let is : Some new ≡ Some t =
      sym (ap (λ d. (starting None d s).transit) e) ∙ sym (ap (λ o. (starting o (front before (candidates s.now 0 s.rows)) s).transit) idle) ∙ sent in
      let same : new ≡ t = cc in
      subst (λ (x : Transit). (r : Row) × Waits s x.slot r x.frame × (x.end ≡ u + r.stream.service) × (x.marked ≡ false)) same
      (p.0, (p.1, p.2), ap (λ (x : Candidate). u + x.shown.service) p.3, refl)

arrives_from : (t : Transit) (u : ℕ) (o : Option Row) (r : Row) (os : List Outcome) → o ≡ Some r
    → os ≡ outcome_in o (outcome u t.slot t.frame (not t.marked)) → Arrives t u os
arrives_from t u o r os e is = record {
  result = outcome u t.slot t.frame (not t.marked) r;
  alone = is ∙ ap (λ x. outcome_in x (outcome u t.slot t.frame (not t.marked))) e;
  slot = refl;
  frame = refl;
  instant = refl;
  met = refl;
}

pub transit_laws : (before : Ready → Ready → Bool) (noisy : Bool) (s : State) → Sound s → TransitLaws before noisy s
unfolding release unit drop
transit_laws before noisy s h =
    let b : State = begun before noisy s in
    let now-is : b.now ≡ s.now + 1 = begun_now before noisy s in
    let carried : (t : Transit) → (start before (release s)).transit ≡ Some t → b.transit ≡ Some (after_noise noisy t) =
    λ t e. begun_transit before noisy s ∙ ap (option_map (after_noise noisy)) e in
    record {
      kept = λ t e. ap (λ (x : State). x.transit) (busy_starts before (release s) t e) ∙ e;
      sent = λ t idle e. sent_for before (release s) t idle e (front before (candidates s.now 0 (release s).rows)) refl;
      goes_on = λ t e later.
          let p = leave_later b (after_noise noisy t) (carried t e) (λ then. later (sym (noise_end noisy t) ∙ then ∙ now-is)) in
          (ap (λ (x : State). x.transit) p.0 ∙ carried t e, p.1);
      leaves = λ t e then.
          let m : Transit = after_noise noisy t in
          let p = leave_then b m (carried t e) (noise_end noisy t ∙ then ∙ sym now-is) in
          let o = (begun_sound before noisy s h).occupied m (carried t e) in
          (ap (λ (x : State). x.transit) p.0, subst (λ u. Arrives m u (arrivals b)) now-is (arrives_from m b.now (row_at b.rows m.slot) o.0 (arrivals b) o.1 p.1));
      idle = λ e.
          let none : b.transit ≡ None = begun_transit before noisy s ∙ ap (option_map (after_noise noisy)) e in
          let p = leave_none b none in
          (ap (λ (x : State). x.transit) p.0 ∙ none, p.1);
    }

-- ---- the frames that are dropped

pub dropped_laws : (before : Ready → Ready → Bool) (noisy : Bool) (s : State) → Sound s → AllByRecursion (Dropped s s.now (s.now + 1)) (dropped_in before noisy s)
dropped_laws before noisy s h =
    let x : State = leave (begun before noisy s) in
    let now-is : x.now ≡ s.now + 1 = leave_now before noisy s in
    all_drops (Dropped s s.now (s.now + 1)) x.now 0 x.rows (λ k r j e w hopeless.
    let sound : SoundRow (s.now + 1) s.now r = (left_sound before noisy s h).rows k r e in
    let at : k ≡ 0 + k = omega arith in
    let late : due r.stream j < x.now + r.stream.service = ltb-true _ _ hopeless in
    record {
      stream = r.stream;
      of_slot = ap (stream_at s) (sym at) ∙ sym (stream_left before noisy s k) ∙ ap (option_map (λ (q : Row). q.stream)) e;
      instant = now-is;
      missed = refl;
      in_time = sound.in_time j w;
      too_late = omega (arith, late, now-is);
    })

-- whatever still waits after a unit can be sent in time
pub left_in_time : (before : Ready → Ready → Bool) (noisy : Bool) (s : State) → Sound s → (i : ℕ) (r : Row) (j : ℕ) → Waits (unit before noisy s) i r j
    → (unit before noisy s).now + r.stream.service ≤ due r.stream j
left_in_time before noisy s h i r j w = ((unit_sound before noisy s h).rows i r w.0).in_time j w.1
