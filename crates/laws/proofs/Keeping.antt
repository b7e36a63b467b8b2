-- The steps of a unit keep a state sound. Assumes nothing.
use Rattle.std.proofs.Common.{◌≡◌, ℕ, ◌+◌, ◌*◌, ◌/◌, ◌%◌, ◌^◌, ◌<◌, ◌≤◌, Bool, true, false, cond, not, eqb, length, Some, None, Option, sym, refl, ap, ◌∙◌, subst, inl, inr, mod-lt, arith, pow_pos}
use Rattle.std.proofs.lemmas.Bool.{cond_both, eqb-true, eqb-false, ltb-false, cases_eq}
use Rattle.std.specs.List.{AllByRecursion}
use Rattle.std.specs.Option.{option_map}
use Rattle.model.specs.Tables.{Divides}
use Rattle.model.specs.Machine.{Row, Rows, Transit, State, Candidate, born, due, with_waiting, with_outcome, in_slot, release_row, release, candidate, candidates, front, starting, start, hit, mark, tick, leaving, leave, hopeless, dropping, drop_row, drop, begun, unit}
use Rattle.model.specs.Ready.{Ready}
use Rattle.firm.specs.Histories.{entered}
use Rattle.laws.specs.Sound.{LawfulStream, row_at, Released, SoundRow, SoundTransit, SoundAt, Sound}
use Rattle.laws.proofs.Slots.{only, row_each, row_in_slot, length_each, length_in_slot, mapped_some}
use Rattle.laws.proofs.Candidates.{all_candidates, front_has}
use Rattle.laws.proofs.Frames.{overdue, born_now}

-- a state whose rows come from those of a sound one, slot by slot
module _ (b f a b' f' a' : ℕ) (s s' : State) (g : ℕ → Row → Row) where
  through : SoundAt b f a s
      → length s'.rows ≡ length s.rows
      → ((i : ℕ) → row_at s'.rows i ≡ option_map (g i) (row_at s.rows i))
      → ((i : ℕ) (r : Row) → row_at s.rows i ≡ Some r → SoundRow b f r → SoundRow b' f' (g i r))
      → ((t : Transit) → s'.transit ≡ Some t → (r : Row) × (row_at s.rows t.slot ≡ Some r) × SoundTransit b' a' t (g t.slot r))
      → SoundAt b' f' a' s'
  through h same at_slot row carry = record {
    eight = same ∙ h.eight;
    rows = λ i r e.
        let from : (q : Row) × (row_at s.rows i ≡ Some q) × (g i q ≡ r) =
        mapped_some (g i) (row_at s.rows i) r (sym (at_slot i) ∙ e) in
        subst (SoundRow b' f') from.2 (row i from.0 from.1 (h.rows i from.0 from.1));
    occupied = λ t e. let c = carry t e in (g t.slot c.0, at_slot t.slot ∙ ap (option_map (g t.slot)) c.1);
    transit = λ t r e o.
        let c = carry t e in
        let same_row : g t.slot c.0 ≡ r =
        let there : Some (g t.slot c.0) ≡ Some r = sym (ap (option_map (g t.slot)) c.1) ∙ sym (at_slot t.slot) ∙ o in cc in
        subst (SoundTransit b' a' t) same_row c.2;
  }

-- ---- step 1

released_row : (u : ℕ) (r : Row) → SoundRow u u r → SoundRow (u + 1) u (release_row u r)
released_row u r h =
    cond_both (eqb (u % r.stream.period) 0) _ _ (SoundRow (u + 1) u)
    (λ e.
    let d : Divides r.stream.period u = eqb-true _ _ e in
    let n : ℕ = u / r.stream.period + 1 in
    let born-here : born r.stream n ≡ u = born_now r.stream u d in
    record {
      lawful = h.lawful;
      bits = h.bits;
      released = λ j w. let same : n ≡ j = cc in
          subst (Released (u + 1) r.stream) same (record { numbered = omega arith; born_before = omega (arith, born-here) });
      in_time = λ j w. let same : n ≡ j = cc in
          let P : ℕ → Type 0 = λ k. u + r.stream.service ≤ due r.stream k in
          subst P same (omega (arith, born-here, h.lawful.service_fits));
    })
    (λ e. record {
      lawful = h.lawful;
      bits = h.bits;
      released = λ j w. record { numbered = (h.released j w).numbered; born_before = omega (arith, (h.released j w).born_before) };
      in_time = h.in_time;
    })

released_transit : (u : ℕ) (t : Transit) (r : Row) → LawfulStream r.stream → SoundTransit u u t r → SoundTransit (u + 1) u t (release_row u r)
released_transit u t r l h =
    cond_both (eqb (u % r.stream.period) 0) _ _ (SoundTransit (u + 1) u t)
    (λ e. absurd (omega (arith, overdue r.stream u t.frame l (eqb-true _ _ e) h.released.born_before, h.leaves_after, h.leaves_by)))
    (λ e. record {
      released = record { numbered = h.released.numbered; born_before = omega (arith, h.released.born_before) };
      leaves_after = h.leaves_after;
      leaves_by = h.leaves_by;
      alone = h.alone;
    })

pub release_sound : (s : State) → Sound s → SoundAt (s.now + 1) s.now s.now (release s)
unfolding release
release_sound s h =
    let u : ℕ = s.now in
    through u u u (u + 1) u u s (release s) (λ i. release_row u) h
    (length_each (release_row u) s.rows)
    (row_each (release_row u) s.rows)
    (λ i r e k. released_row u r k)
    (λ t e. let o = h.occupied t e in
    (o.0, o.1, released_transit u t o.0 (h.rows t.slot o.0 o.1).lawful (h.transit t o.0 e o.1)))

-- ---- step 2

-- a candidate is a waiting frame of the row of its slot
abbrev pub WaitsIn : ℕ → Rows → Candidate → Type 0
WaitsIn u rows c =
    (r : Row) × (row_at rows c.shown.slot ≡ Some r) × (r.waits ≡ Some c.frame) × (c ≡ candidate u c.shown.slot r c.frame)

pub candidates_wait : (u : ℕ) (rows : Rows) → AllByRecursion (WaitsIn u rows) (candidates u 0 rows)
candidates_wait u rows =
    all_candidates (WaitsIn u rows) u 0 rows (λ k r j e w.
    let at : 0 + k ≡ k = omega arith in
    (r, ap (row_at rows) at ∙ e, w, refl))

no_waiting : (b f : ℕ) (r : Row) → SoundRow b f r → SoundRow b f (with_waiting None r)
no_waiting b f r h = record {
  lawful = h.lawful;
  bits = h.bits;
  released = λ j e. absurd (let z : ◌≡◌ {A = ℕ} 0 1 = cc in omega arith);
  in_time = λ j e. absurd (let z : ◌≡◌ {A = ℕ} 0 1 = cc in omega arith);
}

starting_sound : (b : ℕ) (o : Option Transit) (d : Option Candidate) (s : State)
    → s.transit ≡ o → ((c : Candidate) → d ≡ Some c → WaitsIn s.now s.rows c)
    → SoundAt b s.now s.now s → SoundAt b s.now s.now (starting o d s)
starting_sound b (Some t) d s e w h = h
starting_sound b None None s e w h = h
starting_sound b None (Some c) s e w h =
    let u : ℕ = s.now in
    let i : ℕ = c.shown.slot in
    let p : WaitsIn u s.rows c = w c refl in
    let r : Row = p.0 in
    let sound : SoundRow b u r = h.rows i r p.1 in
    let C : c.shown.service ≡ r.stream.service = ap (λ (x : Candidate). x.shown.service) p.3 in
    let sent : Transit = record { slot = i; frame = c.frame; end = u + c.shown.service; marked = false } in
    let carried : SoundTransit b u sent (only i i (with_waiting None) r) =
    cond_both (eqb i i) (with_waiting None r) r (SoundTransit b u sent)
    (λ _. record {
      released = sound.released c.frame p.2;
      leaves_after = omega (arith, C, sound.lawful.service_some);
      leaves_by = omega (arith, C, sound.in_time c.frame p.2);
      alone = refl;
    })
    (λ no. absurd (eqb-false i i no refl)) in
    through b u u b u u s (starting None (Some c) s) (λ j. only i j (with_waiting None)) h
    (length_in_slot i (with_waiting None) s.rows)
    (row_in_slot i (with_waiting None) s.rows)
    (λ j q k sq. cond_both (eqb i j) (with_waiting None q) q (SoundRow b u) (λ _. no_waiting b u q sq) (λ _. sq))
    (λ t q. let same : sent ≡ t = cc in
    subst (λ (x : Transit). (y : Row) × (row_at s.rows x.slot ≡ Some y) × SoundTransit b u x (only i x.slot (with_waiting None) y))
    same (r, p.1, carried))

module _ (before : Ready → Ready → Bool) where
  pub front_waits : (s : State) (c : Candidate) → front before (candidates s.now 0 s.rows) ≡ Some c → WaitsIn s.now s.rows c
  front_waits s c e =
      front_has (WaitsIn s.now s.rows) before (candidates s.now 0 s.rows) c e (candidates_wait s.now s.rows)

  pub start_sound : (b : ℕ) (s : State) → SoundAt b s.now s.now s → SoundAt b s.now s.now (start before s)
  unfolding start
  start_sound b s h = starting_sound b s.transit (front before (candidates s.now 0 s.rows)) s refl (front_waits s) h

-- ---- steps 3 and 4

hit_transit : (b a : ℕ) (t : Transit) (r : Row) → SoundTransit b a t r → SoundTransit b a (hit t) r
hit_transit b a t r h = record { released = h.released; leaves_after = h.leaves_after; leaves_by = h.leaves_by; alone = h.alone }

pub mark_sound : (b f a : ℕ) (noisy : Bool) (s : State) → SoundAt b f a s → SoundAt b f a (mark noisy s)
unfolding mark
mark_sound b f a false s h = h
mark_sound b f a true s h = record {
  eight = h.eight;
  rows = h.rows;
  occupied = λ t e. let m = mapped_some hit s.transit t e in
      let o = h.occupied m.0 m.1 in (o.0, ap (λ (x : Transit). row_at s.rows x.slot) (sym m.2) ∙ o.1);
  transit = λ t r e k. let m = mapped_some hit s.transit t e in
      subst (λ x. SoundTransit b a x r) m.2
      (hit_transit b a m.0 r (h.transit m.0 r m.1 (ap (λ (x : Transit). row_at s.rows x.slot) m.2 ∙ k)));
}

pub tick_sound : (b f a : ℕ) (s : State) → SoundAt b f a s → SoundAt b f a (tick s)
unfolding tick
tick_sound b f a s h = record { eight = h.eight; rows = h.rows; occupied = h.occupied; transit = h.transit }

-- ---- step 5

bits_entered : (k h bit : ℕ) → entered k h bit < 2 ^ k
unfolding entered
bits_entered k h bit = mod-lt (2 * h + bit) (pow_pos k)

outcome_row : (b f : ℕ) (met : Bool) (r : Row) → SoundRow b f r → SoundRow b f (with_outcome met r)
outcome_row b f met r h = record {
  lawful = h.lawful;
  bits = bits_entered r.stream.history.k r.bits (cond met 1 0);
  released = h.released;
  in_time = h.in_time;
}

leaving_sound : (b f : ℕ) (o : Option Transit) (u : ℕ) (s : State) → s.transit ≡ o → s.now ≡ u + 1 → SoundAt b f u s → SoundAt b f (u + 1) (leaving o s)
leaving_sound b f None u s e n h = record {
  eight = h.eight;
  rows = h.rows;
  occupied = h.occupied;
  transit = λ t r k _. absurd (let z : ◌≡◌ {A = ℕ} 0 1 = cc in omega arith);
}
leaving_sound b f (Some t) u s e n h =
    let met : Bool = not t.marked in
    let gone : State = record { now = s.now; rows = in_slot t.slot (with_outcome met) s.rows; transit = None } in
    cond_both (eqb t.end s.now) gone s (SoundAt b f (u + 1))
    (λ _. through b f u b f (u + 1) s gone (λ j. only t.slot j (with_outcome met)) h
    (length_in_slot t.slot (with_outcome met) s.rows)
    (row_in_slot t.slot (with_outcome met) s.rows)
    (λ j q k sq. cond_both (eqb t.slot j) (with_outcome met q) q (SoundRow b f) (λ _. outcome_row b f met q sq) (λ _. sq))
    (λ x k. absurd (let z : ◌≡◌ {A = ℕ} 0 1 = cc in omega arith)))
    (λ later. record {
      eight = h.eight;
      rows = h.rows;
      occupied = h.occupied;
      transit = λ x r k o.
          let same : t ≡ x = cc in
          let sound : SoundTransit b u x r = h.transit x r k o in
          let not-now : x.end ≡ s.now → ⊥ = subst (λ (y : Transit). y.end ≡ s.now → ⊥) same (eqb-false _ _ later) in
          record {
            released = sound.released;
            leaves_after = elim (cases_eq x.end s.now) [
              | inl yes' ↦ absurd (not-now yes')
              | inr ne ↦ omega (arith, sound.leaves_after, n, ne)
            ];
            leaves_by = sound.leaves_by;
            alone = sound.alone;
          };
    })

pub leave_sound : (b f u : ℕ) (s : State) → s.now ≡ u + 1 → SoundAt b f u s → SoundAt b f (u + 1) (leave s)
unfolding leave
leave_sound b f u s n h = leaving_sound b f s.transit u s refl n h

-- ---- step 6

dropping_row : (b f u : ℕ) (w : Option ℕ) (r : Row) → r.waits ≡ w → SoundRow b f r → SoundRow b u (dropping u w r)
dropping_row b f u None r e h = record {
  lawful = h.lawful;
  bits = h.bits;
  released = h.released;
  in_time = λ j k. absurd (let z : ◌≡◌ {A = ℕ} 0 1 = cc in omega arith);
}
dropping_row b f u (Some j) r e h =
    cond_both (hopeless u r.stream j) (with_outcome false (with_waiting None r)) r (SoundRow b u)
    (λ _. record {
      lawful = h.lawful;
      bits = bits_entered r.stream.history.k r.bits 0;
      released = λ i k. absurd (let z : ◌≡◌ {A = ℕ} 0 1 = cc in omega arith);
      in_time = λ i k. absurd (let z : ◌≡◌ {A = ℕ} 0 1 = cc in omega arith);
    })
    (λ hope. record {
      lawful = h.lawful;
      bits = h.bits;
      released = h.released;
      in_time = λ i k. let same : j ≡ i = cc in
          let P : ℕ → Type 0 = λ n. u + r.stream.service ≤ due r.stream n in
          subst P same (ltb-false _ _ hope);
    })

dropping_transit : (b a u : ℕ) (w : Option ℕ) (t : Transit) (r : Row) → r.waits ≡ w → SoundTransit b a t r → SoundTransit b a t (dropping u w r)
dropping_transit b a u None t r e h = h
dropping_transit b a u (Some j) t r e h = absurd (let alone : r.waits ≡ None = h.alone in let z : ◌≡◌ {A = ℕ} 0 1 = cc in omega arith)

pub drop_sound : (b f a : ℕ) (s : State) → SoundAt b f a s → SoundAt b s.now a (drop s)
unfolding drop
drop_sound b f a s h =
    let u : ℕ = s.now in
    through b f a b u a s (drop s) (λ i. drop_row u) h
    (length_each (drop_row u) s.rows)
    (row_each (drop_row u) s.rows)
    (λ i r e k. dropping_row b f u r.waits r refl k)
    (λ t e. let o = h.occupied t e in
    (o.0, o.1, dropping_transit b a u o.0.waits t o.0 refl (h.transit t o.0 e o.1)))

-- ---- a unit, and a run

starting_now : (o : Option Transit) (d : Option Candidate) (s : State) → (starting o d s).now ≡ s.now
starting_now (Some t) d s = refl
starting_now None None s = refl
starting_now None (Some c) s = refl

leaving_now : (o : Option Transit) (s : State) → (leaving o s).now ≡ s.now
leaving_now None s = refl
leaving_now (Some t) s =
    cond_both (eqb t.end s.now) _ s (λ (x : State). x.now ≡ s.now) (λ _. refl) (λ _. refl)

module _ (before : Ready → Ready → Bool) (noisy : Bool) (s : State) where
  pub start_now : (start before (release s)).now ≡ s.now
  unfolding start release
  start_now = starting_now (release s).transit (front before (candidates (release s).now 0 (release s).rows)) (release s)

  pub begun_now : (begun before noisy s).now ≡ s.now + 1
  unfolding tick mark
  begun_now = ap (λ n. n + 1) start_now

  pub leave_now : (leave (begun before noisy s)).now ≡ s.now + 1
  unfolding leave
  leave_now = leaving_now (begun before noisy s).transit (begun before noisy s) ∙ begun_now

  pub unit_now : (unit before noisy s).now ≡ s.now + 1
  unfolding unit drop
  unit_now = leave_now

module _ (before : Ready → Ready → Bool) (noisy : Bool) (s : State) (h : Sound s) where
  -- after step 2
  pub started_sound : SoundAt (s.now + 1) s.now s.now (start before (release s))
  unfolding release
  started_sound = start_sound before (s.now + 1) (release s) (release_sound s h)

  pub begun_sound : SoundAt (s.now + 1) s.now s.now (begun before noisy s)
  begun_sound =
      let u : ℕ = s.now in
      tick_sound (u + 1) u u (mark noisy (start before (release s)))
      (mark_sound (u + 1) u u noisy (start before (release s)) started_sound)

  -- after step 5
  pub left_sound : SoundAt (s.now + 1) s.now (s.now + 1) (leave (begun before noisy s))
  left_sound = leave_sound (s.now + 1) s.now s.now (begun before noisy s) (begun_now before noisy s) begun_sound

  pub unit_sound : Sound (unit before noisy s)
  unfolding unit
  unit_sound =
      let u : ℕ = s.now in
      let x : State = leave (begun before noisy s) in
      let there : SoundAt (u + 1) x.now (u + 1) (drop x) = drop_sound (u + 1) u (u + 1) x left_sound in
      let n : u + 1 ≡ (unit before noisy s).now = sym (unit_now before noisy s) in
      let m : x.now ≡ (unit before noisy s).now = leave_now before noisy s ∙ n in
      subst (λ k. SoundAt k (unit before noisy s).now k (unit before noisy s)) n
      (subst (λ k. SoundAt (u + 1) k (u + 1) (unit before noisy s)) m there)
