-- A change of a row, written into one slot, and by a loop into every slot. Assumes nothing.
use Rattle.std.proofs.Common.{◌≡◌, ℕ, ◌+◌, ◌-◌, ◌<◌, ◌≤◌, Bool, cond, not, List, ◌++◌, map, length, get_or, take, drop, set, None, Option, sym, refl, ap, ◌∙◌, append-nil, arith}
use Rattle.std.proofs.lemmas.List.Edits.{map_over_more}
use Rattle.std.proofs.lemmas.List.{length-map, length-set, map-set, set-get_or, get_or-map, get_or-append_right, get_or-drop, length-take, take_all, drop_all}
use Rattle.std.specs.Option.{option_map}
use Rattle.firm.specs.Histories.{after, passing}
use Rattle.firm.specs.Outcomes.{bit}
use Rattle.firm.specs.Stands.{firm_of}
use Rattle.firm.specs.declared.history.History.{History}
use Rattle.firm.specs.declared.outcome.Outcome.{Outcome}
use Rattle.firm.specs.declared.outcome.Outcome.TheVariants.{Met, Missed}
use Rattle.model.specs.Machine as model
use Rattle.bus.specs.Endings.{is_met}
use Rattle.bus.specs.Rows.{row_of, rows_of}
use Rattle.bus.specs.declared.machine.row.Row.{Row}

-- what stands in slot i, whatever is read past the end
pub row_at : (rows : List (Option Row)) (i : ℕ) (d : Option Row) → i < length rows → option_map row_of (get_or rows i d) ≡ get_or (rows_of rows) i None
row_at rows i d within = sym (get_or-map (option_map row_of) rows i d None within)

pub one_slot : (f : model.Row → model.Row) (rows : List (Option Row)) (i : ℕ) (d y : Option Row) → i < length rows → option_map row_of y ≡ option_map f (option_map row_of (get_or rows i d)) → rows_of (set rows i y) ≡ model.in_slot i f (rows_of rows)
one_slot f rows i d y within change =
    map-set (option_map row_of) rows i y
    ∙ ap (set (rows_of rows) i) (change ∙ ap (option_map f) (row_at rows i d within))

pub bit_is : (out : Outcome) → bit out ≡ cond (is_met out) 1 0
bit_is Met = refl
bit_is Missed = refl

-- whether the history h of a row after an outcome passes
pub failing_after :
    (r : Row) (out : Outcome) (h : History) (p : Bool) → firm_of h ≡ after (firm_of r.history) (bit out) → p ≡ passing (firm_of h)
    → not p ≡ model.failing (model.with_outcome (is_met out) (row_of r))
failing_after r out h p entered passes = ap not (passes ∙ ap passing entered ∙ rw (r.required, r.window, bit_is out))

-- in an empty slot there is nothing to change
pub empty_slot : (f : model.Row → model.Row) (rows : model.Rows) (i : ℕ) → get_or rows i None ≡ None → rows ≡ model.in_slot i f rows
empty_slot f rows i empty =
    sym (set-get_or rows i None) ∙ ap (set rows i) empty ∙ ap (λ o. set rows i (option_map f o)) (sym empty)

pub nothing_there : (f : model.Row → model.Row) (o : Option Row) → o ≡ None → option_map row_of o ≡ option_map f (option_map row_of o)
nothing_there f o e = ap (option_map row_of) e ∙ sym (ap (λ (p : Option Row). option_map f (option_map row_of p)) e)

-- the rows ys are the rows xs with a change made in the first i slots, the others untouched
pub record Done (f : model.Row → model.Row) (xs ys : List (Option Row)) (i : ℕ) : Type 0 where
  pub same : length ys ≡ length xs
  pub done : rows_of ys ≡ map (option_map f) (take i (rows_of xs)) ++ drop i (rows_of xs)

module _ (f : model.Row → model.Row) (xs ys : List (Option Row)) (i : ℕ) where
  -- y is written into slot i, from what stands there
  pub done_more : (d y : Option Row) → i < length xs → option_map row_of y ≡ option_map f (option_map row_of (get_or ys i d)) → Done f xs ys i → Done f xs (set ys i y) (i + 1)
  done_more d y within change h =
      let x : Option model.Row = option_map row_of (get_or ys i d) in
      let held : x ≡ get_or (rows_of ys) i x = sym (get_or-map (option_map row_of) ys i d x (omega (arith, h.same))) in
      record {
        same = length-set ys i y ∙ h.same;
        done =
            map-set (option_map row_of) ys i y ∙ ap (set (rows_of ys) i) change
            ∙ map_over_more (option_map f) (rows_of xs) (rows_of ys) i x (omega (arith, length-map xs (option_map row_of))) h.done held;
      }

  -- the slots from i on are untouched
  pub done_rest : i < length xs → Done f xs ys i → get_or (rows_of ys) i None ≡ get_or (rows_of xs) i None
  done_rest within h =
      let zs : model.Rows = rows_of xs in
      let long : length (map (option_map f) (take i zs)) ≡ i =
      omega (arith, length-map (take i zs) (option_map f), length-take i zs, length-map xs (option_map row_of)) in
      let same : i + (i - i) ≡ i = omega arith in
      ap (λ l. get_or l i None) h.done ∙ get_or-append_right _ (drop i zs) i i None long (omega arith)
      ∙ get_or-drop i zs (i - i) None ∙ ap (λ k. get_or zs k None) same

  pub done_all : length xs ≤ i → Done f xs ys i → rows_of ys ≡ model.each f (rows_of xs)
  done_all past h =
      let all : length (rows_of xs) ≤ i = omega (arith, length-map xs (option_map row_of)) in
      h.done
      ∙ ap (λ zs. map (option_map f) zs ++ drop i (rows_of xs)) (take_all i (rows_of xs) all)
      ∙ ap (λ zs. map (option_map f) (rows_of xs) ++ zs) (drop_all i (rows_of xs) all)
      ∙ append-nil _
