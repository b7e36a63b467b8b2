-- The reading of a file answers with a table exactly where the file spells that table. Assumes nothing.
use Rattle.std.proofs.Common.{◌≡◌, ℕ, zero, suc, ◌+◌, ◌<◌, ◌≤◌, true, false, cond, eqb, ltb, List, [], ◌∷◌, ◌++◌, length, get_or, drop, set, replicate, Some, None, Ok, Option, Result, unwrap_or, sym, refl, ap, ◌∙◌, subst, inl, inr, zero-add, add-one, arith, length-drop}
use Rattle.refusal.specs.declared.Fault.{Fault}
use Rattle.std.proofs.lemmas.List.{append_assoc, length_push, set_at, get_or_at, drop_all, drop-drop, drop_at}
use Rattle.std.proofs.lemmas.Bool.{cases_Bool, cond-true, cond-false, ltb-false, eqb-false}
use Rattle.model.specs.Streams.{Stream}
use Rattle.model.specs.Tables.{Table, empty, hyper_period, histories, passing_count}
use Rattle.model.proofs.Limits.{Limits, Sound, stream_sound, limits_front}
use Rattle.model.specs.Fields.{stands, period, service, deadline, window, required, history}
use Rattle.model.specs.Layout.{spells, Progress, next, slots, judged}
use Rattle.model.specs.Spelling.{Record, Records, Spells, Exactly, end, none, one}
use Rattle.tablefile.proofs.Cuts.{passed, came}
use Rattle.tablefile.proofs.Steps.{slots_skip, slots_next, judged_whole}
use Rattle.tablefile.proofs.Taking.{after, Taken, next_taken, taken_next}

-- the records of the slots from i on have a stream or none for each of them
slots_left : {map i : ℕ} {before : Option ℕ} {bs : List ℕ} {ts : Table} → Records map i before bs ts → i + length ts ≡ 8
slots_left end = refl
slots_left (none off h) = omega (arith, slots_left h)
slots_left (one on r h) = omega (arith, slots_left h)

-- all records of a file have the eight slots of a table
eight : {map : ℕ} {before : Option ℕ} {bs : List ℕ} {t : Table} → Records map 0 before bs t → length t ≡ 8
eight {t = t} h = sym (zero-add (length t)) ∙ slots_left h

-- the stream of a record has passed its tests
record_sound : {before : Option ℕ} {r : List ℕ} {s : Stream} → Record before r s → (0 < s.period) × (1 ≤ passing_count s)
unfolding spells
record_sound {before} {r} {s} h =
    let last = unwrap_or before 0 in
    stream_sound (period last r) (deadline last r) (service r) (required r) (window r) (history r) s h.spelled

records_sound : {map i : ℕ} {before : Option ℕ} {bs : List ℕ} {ts : Table} → Records map i before bs ts → Sound ts
records_sound end = record { periodic = tt; passable = tt }
records_sound (none off h) = let sound = records_sound h in record { periodic = sound.periodic; passable = sound.passable }
records_sound (one on r h) =
    let here = record_sound r in
    let sound = records_sound h in
    record { periodic = (here.0, sound.periodic); passable = (here.1, sound.passable) }

-- how far a file is read when its first streams are those of `front`, and k slots are left
abbrev at : ℕ → Option ℕ → Table → ℕ → Progress
at place before front k = record { place = place; before = before; table = front ++ replicate k None }

-- the slot behind the front is the next that is laid
laid : (front : Table) (n k : ℕ) (x : Option Stream) → length front ≡ n → set (front ++ replicate (suc k) None) n x ≡ (front ++ x ∷ []) ++ replicate k None
laid front n k x count = set_at front None (replicate k None) x n count ∙ sym (append_assoc front (x ∷ []) (replicate k None))

counted : (front : Table) (n : ℕ) (x : Option Stream) → length front ≡ n → length (front ++ x ∷ []) ≡ suc n
counted front n x count = length_push front x ∙ omega arith

-- the eight slots are read to the end of the file and give the table t
abbrev Ended : List ℕ → Table → Type 0
Ended file t = (p : Progress) × (slots file 8 ≡ Ok p) × (length file ≤ p.place) × (p.table ≡ t)

-- the reading of the slots below n: nothing for a bit that does not stand, a record for one that does
data Read (file : List ℕ) : ℕ → Progress → Type 0 where
  begun : Read file 0 (record { place = 1; before = None; table = empty })
  over : {n : ℕ} {p : Progress} → stands (get_or file 0 0) n ≡ false → Read file n p → Read file (suc n) p
  took : {n : ℕ} {p : Progress} → stands (get_or file 0 0) n ≡ true → Read file n p → (x : Taken file n p) → Read file (suc n) (after n p x.r x.s)

module _ (file : List ℕ) where
  -- what a slot adds to the reading
  step_read : (n : ℕ) (p q : Progress) → Read file n p → cond (stands (get_or file 0 0) n) (next file n p) (Ok p) ≡ Ok q → Read file (suc n) q
  step_read n p q reading is = elim (cases_Bool (stands (get_or file 0 0) n)) [
    | inl on ↦ let t = next_taken file n p q (sym (cond-true _ _ _ on) ∙ is) in subst (Read file (suc n)) t.1 (took on reading t.0)
    | inr off ↦ let same : p ≡ q = cc (cond-false _ (next file n p) (Ok p) off) in subst (Read file (suc n)) same (over off reading)
  ]

  -- the slots that are read without a fault are so read
  slots_read : (n : ℕ) (p : Progress) → slots file n ≡ Ok p → Read file n p
  unfolding slots
  slots_read zero p is = let begin : record { place = 1; before = None; table = empty } ≡ p = cc in subst (Read file 0) begin begun
  slots_read (suc n) p is =
      let under = came (slots file n) (λ p. cond (stands (get_or file 0 0) n) (next file n p) (Ok p)) p is in
      step_read n under.0 p (slots_read n under.0 under.1) under.2

  -- the table so far keeps the limits
  read_limits : {n : ℕ} {p : Progress} → Read file n p → Limits p.table
  unfolding hyper_period histories
  read_limits begun = record { period = omega arith; few = omega arith }
  read_limits (over off reading) = read_limits reading
  read_limits (took on reading x) = x.limits

  -- a table is read up to slot n and empty from there on; its first streams and ts are those of all records of the file
  record Front (n : ℕ) (t ts : Table) : Type 0 where
    front : Table
    count : length front ≡ n
    table : t ≡ front ++ replicate (length ts) None
    records : Records (get_or file 0 0) 0 None (drop 1 file) (front ++ ts)

  -- the first of ts moves to the front
  pushed : (n : ℕ) (t : Table) (x : Option Stream) (ts : Table) → Front n t (x ∷ ts) → Front (suc n) (set t n x) ts
  pushed n t x ts f =
      record {
        front = f.front ++ x ∷ [];
        count = counted f.front n x f.count;
        table = ap (λ l. set l n x) f.table ∙ laid f.front n (length ts) x f.count;
        records = rw (append_assoc f.front (x ∷ []) ts) f.records;
      }

  -- a slot that is passed over stays empty
  stays : (n : ℕ) (t ts : Table) → Front n t (None ∷ ts) → set t n None ≡ t
  stays n t ts f =
      ap (λ l. set l n None) f.table ∙ set_at f.front None (replicate (length ts) None) None n f.count ∙ sym f.table

  -- what is read and the records of the slots from n on make up the records of the file
  read_front : {n : ℕ} {p : Progress} → Read file n p → (ts : Table) → Records (get_or file 0 0) n p.before (drop p.place file) ts → Front n p.table ts
  read_front begun ts h = record { front = []; count = refl; table = ap (λ k. replicate k None) (sym (eight h)); records = h }
  read_front {p = p} (over {n = n} off reading) ts h =
      let f = read_front reading (None ∷ ts) (none off h) in
      subst (λ t. Front (suc n) t ts) (stays n p.table ts f) (pushed n p.table None ts f)
  read_front (took {n = n} {p = p} on reading x) ts h =
      pushed n p.table (Some x.s) ts (read_front reading (Some x.s ∷ ts) (rw x.lies (one on x.whole h)))

  module _ (u : Table) (sound : Sound u) (limits : Limits u) where
    -- where the slots below i are read and the records of the others follow, those are read too
    records_slots : {i : ℕ} {before : Option ℕ} {bs : List ℕ} {ts : Table} → Records (get_or file 0 0) i before bs ts → (front : Table) (place : ℕ) → length front ≡ i → front ++ ts ≡ u → drop place file ≡ bs → slots file i ≡ Ok (at place before front (length ts)) → Ended file u
    records_slots end front place count all lies is = (_, is, omega (arith, sym (length-drop place file) ∙ ap length lies), all)
    records_slots (none {i = i} {before = before} {ts = ts} off h) front place count all lies is =
        records_slots h (front ++ None ∷ []) place (counted front i None count) (append_assoc front (None ∷ []) ts ∙ all) lies
        (ap (slots file) (sym (add-one i)) ∙ slots_skip file i _ is off ∙ ap (λ t. Ok (record { place = place; before = before; table = t })) (sym (append_assoc front (None ∷ []) (replicate (length ts) None))))
    records_slots (one {i = i} {before = before} {r = r} {bs = bs} {s = s} {ts = ts} on whole h) front place count all lies is =
        let p = at place before front (suc (length ts)) in
        let more = front ++ Some s ∷ [] in
        let whole-table : more ++ ts ≡ u = append_assoc front (Some s ∷ []) ts ∙ all in
        let table = laid front i (length ts) (Some s) count in
        let kept : Limits (set p.table i (Some s)) = rw table (limits_front more ts (length ts) (rw whole-table sound) (rw whole-table limits)) in
        let free = get_or_at front None (replicate (length ts) None) None i count in
        let reads = taken_next file i p r bs s whole lies (omega (arith, slots_left h)) free kept in
        records_slots h more (place + length r) (counted front i (Some s) count) whole-table
        (sym (drop-drop (length r) place file) ∙ ap (drop (length r)) lies ∙ drop_at r bs (length r) refl)
        (ap (slots file) (sym (add-one i)) ∙ slots_next file i p is on reads ∙ ap (λ t. Ok (record { place = place + length r; before = Some s.period; table = t })) table)

  -- what is read to the end is all records of the file
  ended_records : (t : Table) → Ended file t → Records (get_or file 0 0) 0 None (drop 1 file) t
  ended_records t (p, is, past, table) =
      let f = read_front (slots_read 8 p is) [] (rw (drop_all p.place file past) end) in
      subst (Records (get_or file 0 0) 0 None (drop 1 file)) (sym f.table ∙ table) f.records

  -- and the table keeps the limits
  ended_limits : (t : Table) → Ended file t → Limits t
  ended_limits t (p, is, past, table) = subst Limits table (read_limits (slots_read 8 p is))

-- a file is accepted where it has a slot map and its slots are read to its end
judged_ended : (file : List ℕ) (t : Table) → judged file ≡ Ok t → (1 ≤ length file) × Ended file t
unfolding judged
judged_ended file t is =
    let some = passed (eqb (length file) 0) _ _ t is in
    let reading = came (slots file 8) _ t some.1 in
    let past = passed (ltb reading.0.place (length file)) _ _ t reading.2 in
    let table : reading.0.table ≡ t = cc in
    (omega (arith, eqb-false (length file) 0 some.0), (reading.0, reading.1, ltb-false _ _ past.0, table))

judged_spells : (file : List ℕ) (t : Table) → judged file ≡ Ok t → Spells file t
judged_spells [] t is = absurd (omega (arith, (judged_ended [] t is).0))
judged_spells (map ∷ rest) t is =
    let ended = (judged_ended (map ∷ rest) t is).1 in
    let limits = ended_limits (map ∷ rest) t ended in
    record { map = map; rest = rest; begins = refl; records = ended_records (map ∷ rest) t ended; period = limits.period; few = limits.few }

spells_judged : (file : List ℕ) (t : Table) → Spells file t → judged file ≡ Ok t
unfolding slots
spells_judged file t h =
    let limits : Limits t = record { period = h.period; few = h.few } in
    let begin = ap (λ k. Ok (at 1 None [] k)) (sym (eight h.records)) in
    let ended : Ended (h.map ∷ h.rest) t =
    records_slots (h.map ∷ h.rest) t (records_sound h.records) limits h.records [] 1 refl refl refl begin in
    rw h.begins (judged_whole (h.map ∷ h.rest) ended.0 (omega arith) ended.1 ended.2 ∙ ap Ok ended.3)

-- a file is accepted exactly where it spells a table, and the answer is that table
pub spelled_exactly : (file : List ℕ) (t : Table) → (judged file ≡ Ok t → Spells file t) × (Spells file t → judged file ≡ Ok t)
spelled_exactly file t = (judged_spells file t, spells_judged file t)

-- an answer that is the judgement is exact
pub exact : (file : List ℕ) (r : Result Table Fault) → r ≡ judged file → Exactly file r
exact file r is t = (λ e. (spelled_exactly file t).0 (sym is ∙ e), λ h. is ∙ (spelled_exactly file t).1 h)
