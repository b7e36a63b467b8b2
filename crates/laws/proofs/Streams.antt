-- Every step keeps the stream of every slot. Assumes nothing.
use Rattle.std.proofs.Common.{◌≡◌, ℕ, ◌%◌, Bool, false, cond, not, eqb, Some, None, Option, refl, ap, ◌∙◌}
use Rattle.std.specs.Option.{option_map}
use Rattle.std.proofs.lemmas.Bool.{cond_both}
use Rattle.model.specs.Ready.{Ready}
use Rattle.model.specs.Machine.{Row, Rows, Transit, State, Candidate, with_waiting, with_outcome, each, in_slot, release_row, release, candidates, front, starting, start, mark, tick, leaving, leave, hopeless, dropping, drop_row, drop, begun, unit}
use Rattle.laws.specs.Sound.{row_at, stream_at}
use Rattle.laws.proofs.Slots.{only, row_each, row_in_slot, kept_mapped}

-- a change of a row that keeps its stream
abbrev Keeps : (Row → Row) → Type 0
Keeps f = (r : Row) → (f r).stream ≡ r.stream

cond_keeps : (b : Bool) (x : Row) (r : Row) → x.stream ≡ r.stream → (cond b x r).stream ≡ r.stream
cond_keeps b x r e = cond_both b x r (λ (y : Row). y.stream ≡ r.stream) (λ _. e) (λ _. refl)

each_keeps : (f : Row → Row) (rows : Rows) (i : ℕ) → Keeps f → option_map (λ (r : Row). r.stream) (row_at (each f rows) i) ≡ option_map (λ (r : Row). r.stream) (row_at rows i)
each_keeps f rows i h = ap (option_map (λ (r : Row). r.stream)) (row_each f rows i) ∙ kept_mapped (λ (r : Row). r.stream) f h (row_at rows i)

in_slot_keeps : (j : ℕ) (f : Row → Row) (rows : Rows) (i : ℕ) → Keeps f → option_map (λ (r : Row). r.stream) (row_at (in_slot j f rows) i) ≡ option_map (λ (r : Row). r.stream) (row_at rows i)
in_slot_keeps j f rows i h =
    ap (option_map (λ (r : Row). r.stream)) (row_in_slot j f rows i)
    ∙ kept_mapped (λ (r : Row). r.stream) (only j i f) (λ r. cond_keeps (eqb j i) (f r) r (h r)) (row_at rows i)

pub stream_release : (s : State) (i : ℕ) → stream_at (release s) i ≡ stream_at s i
unfolding release
stream_release s i =
    each_keeps (release_row s.now) s.rows i (λ r. cond_keeps (eqb (s.now % r.stream.period) 0) _ r refl)

starting_keeps : (o : Option Transit) (d : Option Candidate) (s : State) (i : ℕ) → stream_at (starting o d s) i ≡ stream_at s i
starting_keeps (Some t) d s i = refl
starting_keeps None None s i = refl
starting_keeps None (Some c) s i = in_slot_keeps c.shown.slot (with_waiting None) s.rows i (λ r. refl)

leaving_keeps : (o : Option Transit) (s : State) (i : ℕ) → stream_at (leaving o s) i ≡ stream_at s i
leaving_keeps None s i = refl
leaving_keeps (Some t) s i =
    cond_both (eqb t.end s.now) (record { now = s.now; rows = in_slot t.slot (with_outcome (not t.marked)) s.rows; transit = None }) s
    (λ (x : State). stream_at x i ≡ stream_at s i)
    (λ _. in_slot_keeps t.slot (with_outcome (not t.marked)) s.rows i (λ r. refl)) (λ _. refl)

dropping_keeps : (u : ℕ) (w : Option ℕ) (r : Row) → (dropping u w r).stream ≡ r.stream
dropping_keeps u None r = refl
dropping_keeps u (Some j) r = cond_keeps (hopeless u r.stream j) (with_outcome false (with_waiting None r)) r refl

module _ (before : Ready → Ready → Bool) (noisy : Bool) (s : State) (i : ℕ) where
  pub stream_start : stream_at (start before (release s)) i ≡ stream_at s i
  unfolding start
  stream_start =
      starting_keeps (release s).transit (front before (candidates (release s).now 0 (release s).rows)) (release s) i ∙ stream_release s i

  pub stream_begun : stream_at (begun before noisy s) i ≡ stream_at s i
  unfolding tick mark
  stream_begun = stream_start

  pub stream_left : stream_at (leave (begun before noisy s)) i ≡ stream_at s i
  unfolding leave
  stream_left = leaving_keeps (begun before noisy s).transit (begun before noisy s) i ∙ stream_begun

  pub stream_unit : stream_at (unit before noisy s) i ≡ stream_at s i
  unfolding unit drop
  stream_unit =
      let x : State = leave (begun before noisy s) in
      each_keeps (drop_row x.now) x.rows i (λ r. dropping_keeps x.now r.waits r) ∙ stream_left
