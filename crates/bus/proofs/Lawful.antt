-- A table of the code is lawful, and so is sound at its start. Assumes nothing.
use Rattle.std.proofs.Common.{◌≡◌, ℕ, zero, suc, ◌+◌, ◌<◌, ◌≤◌, List, [], ◌∷◌, map, length, get_or, Some, None, Option, sym, ◌∙◌, subst, ⊎_elim, true≢false, arith}
use Rattle.std.proofs.lemmas.Bool.{cases_eq}
use Rattle.std.proofs.lemmas.List.{length-map, get_or-map, ext_get_or}
use Rattle.std.specs.Array.{IsFromFnResult, IsFromFnResultFrom}
use Rattle.std.specs.Fn.{Called, Mut}
use Rattle.std.specs.Option.{option_map}
use Rattle.laws.specs.Sound.{LawfulStream, LawfulTable, Sound}
use Rattle.laws.proofs.Running.{table_sound}
use Rattle.laws.proofs.Slots.{get_or_mapped}
use Rattle.model.specs.Machine as model
use Rattle.model.specs.Schedule.{fresh, started}
use Rattle.model.specs.Streams as model-streams
use Rattle.streams.specs.Stands.{stream_of, slots_of}
use Rattle.streams.specs.Tables.{table_of}
use Rattle.streams.specs.declared.stream.Stream.{Stream}
use Rattle.streams.specs.declared.table.Table.{Table}
use Rattle.bus.specs.Rows.{row_of, rows_of}
use Rattle.bus.specs.declared.machine.row.Row.{Row}

lawful_stream : (s : Stream) → LawfulStream (stream_of s)
lawful_stream s =
    record {
      service_some = s.some;
      service_fits = s.within;
      deadline_fits = s.constrained;
      period_short = s.short;
      required_some = s.history.some;
      required_most = s.history.most;
      window_short = s.history.wide;
      bits_fit = s.history.fits;
    }

lawful_slots : (slots : List (Option Stream)) (i : ℕ) (s : model-streams.Stream) → get_or (slots_of slots) i None ≡ Some s → LawfulStream s
lawful_slots [] i s e = absurd (true≢false cc)
lawful_slots (None ∷ slots) zero s e = absurd (true≢false cc)
lawful_slots (Some x ∷ slots) zero s e = let same : stream_of x ≡ s = cc in subst LawfulStream same (lawful_stream x)
lawful_slots (o ∷ slots) (suc i) s e = lawful_slots slots i s e

eight_slots : (t : Table) → length (table_of t) ≡ 8
eight_slots t = length-map t.slots _ ∙ t.eight

pub lawful_table : (t : Table) → LawfulTable (table_of t)
lawful_table t = record { eight = eight_slots t; streams = lawful_slots t.slots }

pub started_table : (t : Table) (s : model.State) → s ≡ started (table_of t) → Sound s
started_table t s e = subst Sound (sym e) (table_sound (table_of t) (lawful_table t))

-- ---- an array made by a closure that a call leaves as it was, and of whose answers something is known

module _ {F B : Type 0} (g : Mut F (ℕ × Unit {0}) B) (f : F) (P : ℕ → B → Type 0) where
  answered :
      (ys : List B) (n i : ℕ) → ((k : ℕ) (y : B) (q : F) → k < i + n → Called g f (k, tt) y q → (q ≡ f) × P k y)
      → IsFromFnResultFrom g f ys i n → (k : ℕ) → i ≤ k → k < i + n → (d : B) → P k (get_or ys k d)
  answered ys zero i each made k low high d = absurd (omega arith)
  answered ys (suc n) i each made k low high d =
      let here : (made.0 ≡ f) × P i made.1 = each i made.1 made.0 (omega arith) made.3 in
      ⊎_elim
      (λ e. subst (λ (m : ℕ). P m (get_or ys m d)) e (subst (P i) (sym (made.2.1 d)) here.1))
      (λ ne.
      answered ys n (i + 1) (λ m y q below. each m y q (omega arith)) (subst (λ x. IsFromFnResultFrom g x ys (i + 1) n) here.0 made.4) k (omega arith) (omega arith) d)
      (cases_eq i k)

-- the rows of a table at its start
pub started_rows :
    {F : Type 0} (g : Mut F (ℕ × Unit {0}) (Option Row)) (f : F) (t : Table) (rows : List (Option Row))
    → ((k : ℕ) (y : Option Row) (q : F) → k < 8 → Called g f (k, tt) y q → (q ≡ f) × (option_map row_of y ≡ option_map fresh (get_or (table_of t) k None)))
    → IsFromFnResult g f rows 8 → rows_of rows ≡ map (option_map fresh) (table_of t)
started_rows g f t rows each made =
    ext_get_or None (rows_of rows) (map (option_map fresh) (table_of t))
    (length-map rows (option_map row_of) ∙ made.long ∙ sym (length-map (table_of t) (option_map fresh) ∙ eight_slots t))
    (λ k low.
    let within : k < length rows = omega (arith, length-map rows (option_map row_of)) in
    get_or-map (option_map row_of) rows k None None within
    ∙ answered g f (λ k y. option_map row_of y ≡ option_map fresh (get_or (table_of t) k None)) rows 8 0 each made.each k (omega arith) (omega (arith, made.long)) None
    ∙ sym (get_or_mapped fresh (table_of t) k))
