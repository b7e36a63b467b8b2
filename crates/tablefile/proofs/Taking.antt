-- One record of the file: `next` reads it exactly where it is whole and its stream can be laid into the table. Assumes nothing.
use Rattle.std.proofs.Common.{◌≡◌, ℕ, ◌+◌, ◌<◌, ◌≤◌, true, false, not, List, ◌++◌, length, get_or, take, drop, set, is_some, Some, None, Ok, Option, Result, unwrap_or, sym, refl, ap, ◌∙◌, ap₂, add-zero, arith, length-append, length-drop, get_or-drop, drop-drop}
use Rattle.std.proofs.lemmas.List.{take-append-drop, take_at, get_or_append_left}
use Rattle.std.proofs.lemmas.Bool.{lt-leb}
use Rattle.std.proofs.lemmas.Bool.Decides.{nat_tests}
use Rattle.refusal.specs.declared.Fault.{Fault}
use Rattle.refusal.specs.declared.Layer.TheVariants as layers
use Rattle.model.specs.Streams.{Stream}
use Rattle.model.specs.Tables.{Table, placed}
use Rattle.model.proofs.Limits.{Limits, placed_ok, placed_within}
use Rattle.model.specs.Fields.{stands, start}
use Rattle.model.specs.Layout.{admitted, field_map, cut, located, spells, Progress, next}
use Rattle.model.specs.Spelling.{Record}
use Rattle.tablefile.proofs.Steps.{next_laid}
use Rattle.tablefile.proofs.Cuts.{came, located_ok, cut_ok, cut_whole}

-- how far the file is read behind the record r of slot i, which spells s
abbrev pub after : ℕ → Progress → List ℕ → Stream → Progress
after i p r s = record { place = p.place + length r; before = Some s.period; table = set p.table i (Some s) }

-- the tests of a field map are those of a record
admitted_whole : (map : ℕ) (before : Option ℕ) → admitted map (not (is_some before)) ≡ Ok map → (stands map 6 ≡ false) × (stands map 7 ≡ false) × (before ≡ None → stands map 0 ≡ true)
admitted_whole map None is = (grind (arith, nat_tests), grind (arith, nat_tests), λ _. grind (arith, nat_tests))
admitted_whole map (Some n) is = (grind (arith, nat_tests), grind (arith, nat_tests), λ e. cc)

whole_admitted : (before : Option ℕ) (r : List ℕ) (s : Stream) → Record before r s → admitted (get_or r 0 0) (not (is_some before)) ≡ Ok (get_or r 0 0)
whole_admitted None r s h = let period = h.first refl in grind (arith, nat_tests)
whole_admitted (Some n) r s h = grind (arith, nat_tests)

module _ (file : List ℕ) (i : ℕ) (p : Progress) where
  -- a whole record lies at the place reached, and its stream can be laid into slot i
  pub record Taken : Type 0 where
    pub r : List ℕ
    pub s : Stream
    pub whole : Record p.before r s
    pub lies : drop p.place file ≡ r ++ drop (p.place + length r) file
    pub limits : Limits (set p.table i (Some s))

  -- what is cut, spelled and laid is such a record
  taken : (q : Progress) (r : List ℕ) (s : Stream) (t : Table) → cut file p.place (not (is_some p.before)) ≡ Ok r → spells (unwrap_or p.before 0) r ≡ Ok s → placed p.table i s ≡ Ok t → ◌≡◌ {A = Result Progress Fault} (Ok (record { place = p.place + length r; before = Some s.period; table = t })) (Ok q) → (x : Taken) × (after i p x.r x.s ≡ q)
  taken q r s t cutting spelling laying is =
      let part = cut_ok file p.place (not (is_some p.before)) r cutting in
      let map = admitted_whole (get_or r 0 0) p.before part.admits in
      let laid = placed_ok p.table i s t laying in
      let x : Taken = record {
        r = r;
        s = s;
        whole = record { sixth = map.0; seventh = map.1; first = map.2; sized = part.sized; spelled = spelling };
        lies = sym (take-append-drop (length r) (drop p.place file)) ∙ ap₂ ◌++◌ (sym part.part) (drop-drop (length r) p.place file);
        limits = laid.1;
      } in
      (x, cc laid.0)

  pub next_taken : (q : Progress) → next file i p ≡ Ok q → (x : Taken) × (after i p x.r x.s ≡ q)
  unfolding next
  next_taken q is =
      let cutting = came (cut file p.place (not (is_some p.before))) _ q is in
      let spelling = came (located p.place layers.Stream (spells (unwrap_or p.before 0) cutting.0)) _ q cutting.2 in
      let laying = came (located p.place layers.Table (placed p.table i spelling.0)) _ q spelling.2 in
      taken q cutting.0 spelling.0 laying.0 cutting.1 (located_ok _ _ _ _ spelling.1) (located_ok _ _ _ _ laying.1) laying.2

  -- and back: a whole record at the place reached
  module _ (r bs : List ℕ) (s : Stream) (whole : Record p.before r s) (lies : drop p.place file ≡ r ++ bs) where
    -- it has its field map at least, and ends within the file
    some : 1 ≤ length r
    unfolding start
    some = omega arith

    within : p.place + length r ≤ length file
    within = omega (arith, some, sym (length-drop p.place file) ∙ ap length lies ∙ length-append r bs)

    -- its field map is the byte at that place
    map_here : get_or file p.place 0 ≡ get_or r 0 0
    map_here =
        ap (λ n. get_or file n 0) (sym (add-zero p.place))
        ∙ sym (get_or-drop p.place file 0 0)
        ∙ ap (λ l. get_or l 0 0) lies
        ∙ get_or_append_left r bs 0 0 some

    mapped : field_map file p.place (not (is_some p.before)) ≡ Ok (get_or r 0 0)
    unfolding field_map
    mapped =
        let inside : p.place < length file = omega (arith, some, within) in
        simp (lt-leb (length file) p.place inside, map_here) (ap (located p.place layers.File) (whole_admitted p.before r s whole))

    -- so it is cut out of the file
    cuts : cut file p.place (not (is_some p.before)) ≡ Ok r
    cuts =
        sym (cut_whole file p.place (not (is_some p.before)) (get_or r 0 0) (sym mapped) (omega (arith, within)))
        ∙ ap Ok (ap₂ take (sym whole.sized) lies ∙ take_at r bs (length r) refl)

    -- and read, where its stream can be laid into slot i
    pub taken_next : i < 8 → get_or p.table i None ≡ None → Limits (set p.table i (Some s)) → next file i p ≡ Ok (after i p r s)
    taken_next slot free limits =
        next_laid file i p r s (set p.table i (Some s)) cuts
        (ap (located p.place layers.Stream) whole.spelled)
        (ap (located p.place layers.Table) (placed_within p.table i s slot free limits))
