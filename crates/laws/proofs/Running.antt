-- Runs from a sound state stay sound, and a started table of lawful streams is sound. Assumes nothing.
use Rattle.std.proofs.Common.{◌≡◌, ℕ, zero, suc, ◌+◌, ◌<◌, Bool, List, [], ◌∷◌, length, get_or, Some, None, Option, sym, refl, ap, ◌∙◌, subst, ap₂, arith}
use Rattle.std.specs.Option.{option_map}
use Rattle.std.proofs.lemmas.List.{length-map, ext_get_or}
use Rattle.model.specs.Streams.{Stream}
use Rattle.model.specs.Tables.{Table, Divides, Every, Common, hyper_period}
use Rattle.model.specs.Ready.{Ready}
use Rattle.model.specs.Machine.{Row, State, unit}
use Rattle.model.specs.Schedule.{fresh, started, run}
use Rattle.model.specs.Forecast.{table_of}
use Rattle.model.proofs.Periods.{Periodic, common_from_divides}
use Rattle.laws.specs.Sound.{LawfulStream, LawfulTable, stream_at, SoundRow, Sound}
use Rattle.laws.specs.Units.{Clear}
use Rattle.laws.proofs.Slots.{get_or_mapped, mapped_some}
use Rattle.laws.proofs.Streams.{stream_unit}
use Rattle.laws.proofs.Keeping.{unit_sound, unit_now}
use Rattle.laws.proofs.Units.{release_laws}

-- two states with the same streams have one table
pub same_table : (x s : State) → length x.rows ≡ length s.rows → ((i : ℕ) → stream_at x i ≡ stream_at s i) → table_of x ≡ table_of s
same_table x s slots streams =
    let stream = λ (r : Row). r.stream in
    ext_get_or None (table_of x) (table_of s)
    (length-map x.rows (option_map stream) ∙ slots ∙ sym (length-map s.rows (option_map stream)))
    (λ i _. get_or_mapped stream x.rows i ∙ streams i ∙ sym (get_or_mapped stream s.rows i))

-- ---- runs

module _ (before : Ready → Ready → Bool) where
  pub run_sound : (s : State) (noise : List Bool) → Sound s → Sound (run before s noise)
  unfolding run
  run_sound s [] h = h
  run_sound s (noisy ∷ noise) h = run_sound (unit before noisy s) noise (unit_sound before noisy s h)

  pub run_now : (s : State) (noise : List Bool) → (run before s noise).now ≡ s.now + length noise
  unfolding run
  run_now s [] = omega arith
  run_now s (noisy ∷ noise) = omega (arith, run_now (unit before noisy s) noise, unit_now before noisy s)

  pub stream_run : (s : State) (noise : List Bool) (i : ℕ) → stream_at (run before s noise) i ≡ stream_at s i
  unfolding run
  stream_run s [] i = refl
  stream_run s (noisy ∷ noise) i = stream_run (unit before noisy s) noise i ∙ stream_unit before noisy s i

  -- a run keeps the table
  pub run_table : (s : State) (noise : List Bool) → Sound s → table_of (run before s noise) ≡ table_of s
  run_table s noise h = same_table (run before s noise) s ((run_sound s noise h).eight ∙ sym h.eight) (stream_run s noise)

-- ---- started tables

fresh_back : (o : Option Stream) → option_map (λ (r : Row). r.stream) (option_map fresh o) ≡ o
fresh_back None = refl
fresh_back (Some s) = refl

pub stream_started : (t : Table) (i : ℕ) → stream_at (started t) i ≡ get_or t i None
unfolding started
stream_started t i = ap (option_map (λ (r : Row). r.stream)) (get_or_mapped fresh t i) ∙ fresh_back (get_or t i None)

pub table_started : (t : Table) → table_of (started t) ≡ t
unfolding started
table_started [] = refl
table_started (o ∷ t) = ap₂ (λ x (xs : Table). x ∷ xs) (fresh_back o) (table_started t)

fresh_sound : (s : Stream) → LawfulStream s → SoundRow 0 0 (fresh s)
fresh_sound s h = record {
  lawful = h;
  bits = h.bits_fit;
  released = λ j e. absurd (let z : ◌≡◌ {A = ℕ} 0 1 = cc in omega arith);
  in_time = λ j e. absurd (let z : ◌≡◌ {A = ℕ} 0 1 = cc in omega arith);
}

pub table_sound : (t : Table) → LawfulTable t → Sound (started t)
unfolding started
table_sound t h = record {
  eight = length-map t (option_map fresh) ∙ h.eight;
  rows = λ i r e.
      let m : (s : Stream) × (get_or t i None ≡ Some s) × (fresh s ≡ r) = mapped_some fresh (get_or t i None) r (sym (get_or_mapped fresh t i) ∙ e) in
      subst (SoundRow 0 0) m.2 (fresh_sound m.0 (h.streams i m.0 m.1));
  occupied = λ x e. absurd (let z : ◌≡◌ {A = ℕ} 0 1 = cc in omega arith);
  transit = λ x r e k. absurd (let z : ◌≡◌ {A = ℕ} 0 1 = cc in omega arith);
}

started_now : (t : Table) → (started t).now ≡ 0
unfolding started
started_now t = refl

pub from_start_now : (before : Ready → Ready → Bool) (t : Table) (noise : List Bool) → (run before (started t) noise).now ≡ length noise
from_start_now before t noise = omega (arith, run_now before (started t) noise, started_now t)

-- ---- the hyper-period

every_from_slots : (P : Stream → Type 0) (t : Table) → ((i : ℕ) (s : Stream) → get_or t i None ≡ Some s → P s) → Every P t
every_from_slots P [] h = tt
every_from_slots P (None ∷ t) h = every_from_slots P t (λ i s e. h (suc i) s e)
every_from_slots P (Some s ∷ t) h = (h 0 s refl, every_from_slots P t (λ i r e. h (suc i) r e))

every_slot : (P : Stream → Type 0) (t : Table) → Every P t → (i : ℕ) (s : Stream) → get_or t i None ≡ Some s → P s
every_slot P [] h i s e = absurd (let z : ◌≡◌ {A = ℕ} 0 1 = cc in omega arith)
every_slot P (None ∷ t) h zero s e = absurd (let z : ◌≡◌ {A = ℕ} 0 1 = cc in omega arith)
every_slot P (None ∷ t) h (suc i) s e = every_slot P t h i s e
every_slot P (Some r ∷ t) h zero s e = let same : r ≡ s = cc in subst P same h.0
every_slot P (Some r ∷ t) h (suc i) s e = every_slot P t h.1 i s e

periodic : (t : Table) → LawfulTable t → Periodic t
periodic t h = every_from_slots (λ s. 0 < s.period) t (λ i s e.
    let l : LawfulStream s = h.streams i s e in omega (arith, l.service_some, l.service_fits, l.deadline_fits))

pub clear_at_hyper_period : (before : Ready → Ready → Bool) (t : Table) (noise : List Bool) → LawfulTable t → Divides (hyper_period t) (length noise) → Clear (run before (started t) noise)
clear_at_hyper_period before t noise h d =
    let s : State = run before (started t) noise in
    let now-is : length noise ≡ s.now = sym (from_start_now before t noise) in
    let common : Common t s.now = subst (Common t) now-is (common_from_divides t (periodic t h) (length noise) d) in
    (release_laws s (run_sound before (started t) noise (table_sound t h))).clear (λ i r e.
    every_slot (λ f. Divides f.period s.now) t common i r.stream
    (sym (stream_started t i) ∙ sym (stream_run before (started t) noise i) ∙ ap (option_map (λ (q : Row). q.stream)) e))
