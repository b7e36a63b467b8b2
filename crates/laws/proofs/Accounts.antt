-- Every released frame has one outcome or is pending, and every outcome is timely. Assumes nothing.
use Rattle.std.proofs.Common.{◌≡◌, ℕ, suc, ◌+◌, ◌≤◌, Bool, not, List, [], ◌∷◌, length, get_or, Some, None, Option, sym, refl, ap, ◌∙◌, subst, inl, inr, arith}
use Rattle.std.specs.List.{AllByRecursion}
use Rattle.std.specs.Option.{option_map}
use Rattle.std.proofs.ByRecursion.{All-append, All-weaker}
use Rattle.std.proofs.lemmas.Bool.{cases_eq}
use Rattle.std.proofs.lemmas.Bool.Decides.{nat_tests}
use Rattle.model.specs.Streams.{Stream}
use Rattle.model.specs.Tables.{Table}
use Rattle.model.specs.Ready.{Ready}
use Rattle.model.specs.Machine.{Row, Transit, State, Outcome, due, release, arrivals, leave, drops, outcome, outcome_in, begun, unit, outcomes}
use Rattle.model.specs.Schedule.{fresh, started, run, ran}
use Rattle.laws.specs.Sound.{LawfulStream, LawfulTable, row_at, stream_at, SoundRow, SoundTransit, SoundAt, Sound}
use Rattle.laws.specs.Runs.{told, waits_here, waits_in, sent_in, pending, released, Once, Timely}
use Rattle.laws.proofs.Slots.{get_or_mapped, mapped_some}
use Rattle.laws.proofs.Streams.{stream_unit, stream_begun, stream_left}
use Rattle.laws.proofs.Keeping.{begun_sound, left_sound, unit_sound, begun_now, leave_now, unit_now}
use Rattle.laws.proofs.Leaving.{leave_none, leave_later, leave_then}
use Rattle.laws.proofs.Dropping.{all_drops}
use Rattle.laws.proofs.Units.{release_laws}
use Rattle.laws.proofs.Running.{run_sound, from_start_now, stream_run, stream_started, table_sound}
use Rattle.laws.proofs.Counts.{one_if_ne, pair_none, told_append, released_split, released_by, released_not, release_counts, start_counts, begun_counts, leave_counts, drop_counts}

-- ---- one unit

module _ (before : Ready → Ready → Bool) (noisy : Bool) (s : State) (h : Sound s) where
  unit_counts : (i : ℕ) (r : Row) (j : ℕ) → row_at s.rows i ≡ Some r → 1 ≤ j
      → told i j (outcomes before noisy s) + pending (unit before noisy s) i j ≡ pending s i j + released s.now (s.now + 1) r.stream j
  unfolding outcomes unit
  unit_counts i r j e some =
      let b : State = begun before noisy s in
      let x : State = leave b in
      omega (
        arith,
        told_append i j (arrivals b) (drops x.now 0 x.rows),
        drop_counts x i j,
        leave_counts b i j (begun_sound before noisy s h).occupied b.transit refl,
        begun_counts before noisy s i j,
        start_counts before (release s) i j,
        release_counts s i r j e (h.rows i r e).lawful some ((release_laws s h).free i r e),
      )

  pub unit_account : (i : ℕ) (f : Stream) (j : ℕ) → stream_at s i ≡ Some f → 1 ≤ j
      → told i j (outcomes before noisy s) + pending (unit before noisy s) i j ≡ pending s i j + released s.now (s.now + 1) f j
  unit_account i f j e some =
      let m = mapped_some (λ (r : Row). r.stream) (row_at s.rows i) f e in
      subst (λ g. told i j (outcomes before noisy s) + pending (unit before noisy s) i j ≡ pending s i j + released s.now (s.now + 1) g j)
      m.2 (unit_counts i m.0 j m.1 some)

-- ---- a run

module _ (before : Ready → Ready → Bool) where
  pub run_account : (s : State) (noise : List Bool) → Sound s → (i : ℕ) (f : Stream) (j : ℕ) → stream_at s i ≡ Some f → 1 ≤ j
      → told i j (ran before s noise) + pending (run before s noise) i j ≡ pending s i j + released s.now (s.now + length noise) f j
  unfolding run ran told
  run_account s [] h i f j e some = grind (arith, nat_tests)
  run_account s (noisy ∷ noise) h i f j e some =
      let u : ℕ = s.now in
      let x : State = unit before noisy s in
      let later : told i j (ran before x noise) + pending (run before x noise) i j ≡ pending x i j + released (u + 1) (u + 1 + length noise) f j =
      subst (λ n. told i j (ran before x noise) + pending (run before x noise) i j ≡ pending x i j + released n (n + length noise) f j)
      (unit_now before noisy s)
      (run_account x noise (unit_sound before noisy s h) i f j (stream_unit before noisy s i ∙ e) some) in
      let n : u + 1 + length noise ≡ u + suc (length noise) = omega arith in
      let all : released u (u + 1) f j + released (u + 1) (u + suc (length noise)) f j ≡ released u (u + suc (length noise)) f j =
      released_split u (u + 1) (u + suc (length noise)) f j (omega arith) (omega arith) in
      omega (
        arith,
        told_append i j (outcomes before noisy s) (ran before x noise),
        unit_account before noisy s h i f j e some,
        later,
        ap (λ m. released (u + 1) m f j) n,
        all,
      )

-- ---- what is pending

waits_none : (w : Option ℕ) (j : ℕ) → ((n : ℕ) → w ≡ Some n → n ≡ j → ⊥) → waits_here w j ≡ 0
waits_none None j h = refl
waits_none (Some n) j h = one_if_ne n j (h n refl)

sent_none : (o : Option Transit) (i j : ℕ) → ((t : Transit) → o ≡ Some t → t.slot ≡ i → t.frame ≡ j → ⊥) → sent_in o i j ≡ 0
sent_none None i j h = refl
sent_none (Some t) i j h = pair_none t.slot i t.frame j (h t refl)

pending_none : (s : State) → Sound s → (i : ℕ) (r : Row) (j : ℕ) → row_at s.rows i ≡ Some r → due r.stream j ≤ s.now → pending s i j ≡ 0
unfolding pending
pending_none s h i r j e past =
    let f : Stream = r.stream in
    let sound : SoundRow s.now s.now r = h.rows i r e in
    let waits : waits_in (row_at s.rows i) j ≡ 0 =
    ap (λ o. waits_in o j) e ∙ waits_none r.waits j (λ n w is.
    omega (arith, sound.in_time n w, ap (due f) is, past, sound.lawful.service_some)) in
    let sent : sent_in s.transit i j ≡ 0 =
    sent_none s.transit i j (λ t k slot_is frame_is.
    let there : row_at s.rows t.slot ≡ Some r = ap (row_at s.rows) slot_is ∙ e in
    let carried : SoundTransit s.now s.now t r = h.transit t r k there in
    omega (arith, carried.leaves_after, carried.leaves_by, ap (due f) frame_is, past)) in
    omega (arith, waits, sent)

-- nothing of a frame is pending once it is due
pub pending_past : (s : State) → Sound s → (i : ℕ) (f : Stream) (j : ℕ) → stream_at s i ≡ Some f → due f j ≤ s.now → pending s i j ≡ 0
pending_past s h i f j e past =
    let m = mapped_some (λ (r : Row). r.stream) (row_at s.rows i) f e in
    pending_none s h i m.0 j m.1 (subst (λ g. due g j ≤ s.now) (sym m.2) past)

pending_started : (t : Table) (i : ℕ) (f : Stream) (j : ℕ) → get_or t i None ≡ Some f → pending (started t) i j ≡ 0
unfolding pending started
pending_started t i f j e = ap (λ o. waits_in o j + 0) (get_or_mapped fresh t i ∙ ap (option_map fresh) e)

-- ---- a run of a started table

module _ (before : Ready → Ready → Bool) (t : Table) (noise : List Bool) (h : LawfulTable t) where
  module _ (i : ℕ) (f : Stream) (j : ℕ) (e : get_or t i None ≡ Some f) (some : 1 ≤ j) where
    from_start : told i j (ran before (started t) noise) + pending (run before (started t) noise) i j ≡ released 0 (length noise) f j
    unfolding started
    from_start =
        let n : 0 + length noise ≡ length noise = omega arith in
        omega (
          arith,
          run_account before (started t) noise (table_sound t h) i f j (stream_started t i ∙ e) some,
          pending_started t i f j e,
          ap (λ m. released 0 m f j) n,
        )

    pub once : Once f j (length noise) (told i j (ran before (started t) noise))
    once =
        let s : State = run before (started t) noise in
        let now-is : s.now ≡ length noise = from_start_now before t noise in
        let sound : Sound s = run_sound before (started t) noise (table_sound t h) in
        let streams : stream_at s i ≡ Some f = stream_run before (started t) noise i ∙ stream_started t i ∙ e in
        let lawful : LawfulStream f = h.streams i f e in
        record {
          early = λ early. omega (arith, from_start, released_not 0 (length noise) f j early);
          most = grind (arith, nat_tests, from_start);
          done = λ past.
              let none : pending s i j ≡ 0 = pending_past s sound i f j streams (omega (arith, now-is, past)) in
              let was : released 0 (length noise) f j ≡ 1 =
              released_by 0 (length noise) f j (omega arith) (omega (arith, past, lawful.service_some, lawful.service_fits)) in
              omega (arith, from_start, none, was);
        }

-- ---- every outcome is timely

module _ (before : Ready → Ready → Bool) (noisy : Bool) (s : State) (h : Sound s) where
  timely_arrivals : (o : Option Transit) → (begun before noisy s).transit ≡ o → AllByRecursion (Timely (stream_at s)) (arrivals (begun before noisy s))
  timely_arrivals None e = subst (AllByRecursion (Timely (stream_at s))) (sym (leave_none (begun before noisy s) e).1) tt
  timely_arrivals (Some t) e =
      let b : State = begun before noisy s in
      let u : ℕ = s.now in
      let now-is : b.now ≡ u + 1 = begun_now before noisy s in
      let sound : SoundAt (u + 1) u u b = begun_sound before noisy s h in
      elim (cases_eq t.end b.now) [
        | inl then ↦
            let o = sound.occupied t e in
            let r : Row = o.0 in
            let F : Row → Outcome = outcome b.now t.slot t.frame (not t.marked) in
            let carried : SoundTransit (u + 1) u t r = sound.transit t r e o.1 in
            let is : arrivals b ≡ F r ∷ [] = (leave_then b t e then).1 ∙ ap (λ x. outcome_in x F) o.1 in
            let timely : Timely (stream_at s) (F r) = record {
              stream = r.stream;
              of_slot = sym (stream_begun before noisy s t.slot) ∙ ap (option_map (λ (q : Row). q.stream)) o.1;
              numbered = carried.released.numbered;
              after_release = omega (arith, now-is, carried.released.born_before);
              by_deadline = omega (arith, then, carried.leaves_by);
            } in
            subst (AllByRecursion (Timely (stream_at s))) (sym is) (timely, tt)
        | inr later ↦ subst (AllByRecursion (Timely (stream_at s))) (sym (leave_later b t e later).1) tt
      ]

  timely_drops : AllByRecursion (Timely (stream_at s)) (drops (leave (begun before noisy s)).now 0 (leave (begun before noisy s)).rows)
  timely_drops =
      let x : State = leave (begun before noisy s) in
      let u : ℕ = s.now in
      let now-is : x.now ≡ u + 1 = leave_now before noisy s in
      all_drops (Timely (stream_at s)) x.now 0 x.rows (λ k r j e w _.
      let at : k ≡ 0 + k = omega arith in
      let sound : SoundRow (u + 1) u r = (left_sound before noisy s h).rows k r e in
      record {
        stream = r.stream;
        of_slot = ap (stream_at s) (sym at) ∙ sym (stream_left before noisy s k) ∙ ap (option_map (λ (q : Row). q.stream)) e;
        numbered = (sound.released j w).numbered;
        after_release = omega (arith, now-is, (sound.released j w).born_before);
        by_deadline = omega (arith, now-is, sound.in_time j w, sound.lawful.service_some);
      })

  pub timely_unit : AllByRecursion (Timely (stream_at s)) (outcomes before noisy s)
  unfolding outcomes
  timely_unit =
      All-append (Timely (stream_at s)) (arrivals (begun before noisy s)) (drops (leave (begun before noisy s)).now 0 (leave (begun before noisy s)).rows)
      (timely_arrivals (begun before noisy s).transit refl) timely_drops

-- an outcome that is timely for some streams is so for the same streams
timely_same : (a b : ℕ → Option Stream) → ((i : ℕ) → a i ≡ b i) → (os : List Outcome) → AllByRecursion (Timely a) os → AllByRecursion (Timely b) os
timely_same a b same os h =
    All-weaker (Timely a) (Timely b) (λ o k. record {
      stream = k.stream;
      of_slot = sym (same o.slot) ∙ k.of_slot;
      numbered = k.numbered;
      after_release = k.after_release;
      by_deadline = k.by_deadline;
    }) os h

pub timely_run : (before : Ready → Ready → Bool) (s : State) (noise : List Bool) → Sound s → AllByRecursion (Timely (stream_at s)) (ran before s noise)
unfolding ran
timely_run before s [] h = tt
timely_run before s (noisy ∷ noise) h =
    let x : State = unit before noisy s in
    All-append (Timely (stream_at s)) (outcomes before noisy s) (ran before x noise) (timely_unit before noisy s h)
    (timely_same (stream_at x) (stream_at s) (stream_unit before noisy s) (ran before x noise) (timely_run before x noise (unit_sound before noisy s h)))

pub timely_from_start : (before : Ready → Ready → Bool) (t : Table) (noise : List Bool) → LawfulTable t → AllByRecursion (Timely (λ i. get_or t i None)) (ran before (started t) noise)
timely_from_start before t noise h =
    timely_same (stream_at (started t)) (λ i. get_or t i None) (stream_started t) (ran before (started t) noise)
    (timely_run before (started t) noise (table_sound t h))
