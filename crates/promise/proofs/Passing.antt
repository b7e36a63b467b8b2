-- At every boundary but the first all histories pass, if no failure lies before it; so two of the first N + 1 of these agree. Assumes nothing.
use Rattle.std.proofs.Common.{◌≡◌, ℕ, suc, ◌+◌, ◌-◌, ◌<◌, ◌≤◌, Bool, [], ◌∷◌, Some, None, sym, refl, subst, mul-le-mul_right, arith}
use Rattle.model.specs.Tables.{Divides, Common, histories}
use Rattle.model.specs.Ready.{Ready}
use Rattle.model.specs.Machine.{Row, Rows, State, release}
use Rattle.model.specs.Schedule.{after}
use Rattle.model.specs.Forecast.{table_of, period_of, units_to, at_boundary}
use Rattle.model.proofs.Periods.{common_from_divides}
use Rattle.laws.specs.Sound.{row_at, Sound}
use Rattle.rounds.specs.Boundaries.{table_of as streams-of, bits_of, Idle}
use Rattle.rounds.specs.Passing.{Passes, Passing, Twice}
use Rattle.rounds.proofs.Passing.{some_twice}
use Rattle.promise.specs.Boundaries.{Unfailing, boundary, Boundary, AgreeWithin}
use Rattle.promise.proofs.Schedules.{after_sound}
use Rattle.promise.proofs.Boundaries.{every_row, periodic, period_positive, units_next, units_are, boundaries}
use Rattle.promise.proofs.Settled.{Settled, all_release, settled_on}

-- rows that all pass
passing_rows : (rows : Rows) → ((i : ℕ) (r : Row) → row_at rows i ≡ Some r → Passes r.stream r.bits) → Passing (streams-of rows) (bits_of rows)
passing_rows [] h = tt
passing_rows (None ∷ rows) h = passing_rows rows (λ i r e. h (suc i) r e)
passing_rows (Some r ∷ rows) h = (h 0 r refl, passing_rows rows (λ i q e. h (suc i) q e))

-- boundaries come one after the other
pub units_rise : (s : State) (i j : ℕ) → i ≤ j → units_to s i ≤ units_to s j
units_rise s i j le = omega (arith, units_are s i, units_are s j, mul-le-mul_right (period_of s) le)

module _ (before : Ready → Ready → Bool) (s : State) (h : Sound s) where
  -- at a boundary every row releases a frame
  boundary_releases : (i : ℕ) → Settled (release (boundary before s i))
  boundary_releases i =
      let x : State = boundary before s i in
      let b : Boundary before s i = boundaries before s h i in
      let common : Common (table_of x) x.now =
      subst (λ t. Common t x.now) (sym b.idle.table) (common_from_divides (table_of s) (periodic s h) x.now b.multiple) in
      all_release x (every_row (λ f. Divides f.period x.now) x.rows common)

  boundary_settled : (i : ℕ) → Unfailing before s (units_to s (i + 1)) → Settled (boundary before s (i + 1))
  boundary_settled i fine =
      let some : 0 < period_of s = period_positive s h in
      let next : units_to s i + suc (period_of s - 1) ≡ units_to s (i + 1) = omega (arith, units_next s i) in
      subst (λ n. Settled (after before s n)) next
      (settled_on before s (units_to s i) (period_of s - 1) (boundary_releases i) (subst (Unfailing before s) (sym next) fine))

  pub boundary_passes : (i : ℕ) → Unfailing before s (units_to s (i + 1)) → Passing (table_of s) (at_boundary before s (i + 1))
  unfolding at_boundary
  boundary_passes i fine =
      let x : State = boundary before s (i + 1) in
      let sound : Sound x = after_sound before s h (units_to s (i + 1)) in
      let idle : Idle (table_of s) x = (boundaries before s h (i + 1)).idle in
      let settled : Settled x = boundary_settled i fine in
      subst (λ t. Passing t (bits_of x.rows)) idle.table
      (passing_rows x.rows (λ k r e. record {
        fits = (sound.rows k r e).bits;
        passed = settled k r e (idle.none_waits k r e) (λ t there _.
            let free : x.transit ≡ None = idle.bus_free in let z : ◌≡◌ {A = ℕ} 0 1 = cc in omega arith);
      }))

  pub some_agree : Unfailing before s (units_to s (histories (table_of s) + 1)) → AgreeWithin before s
  some_agree fine =
      let n : ℕ = histories (table_of s) in
      let r : Twice (λ i. at_boundary before s (i + 1)) n =
      some_twice (table_of s) (λ i. at_boundary before s (i + 1)) (λ i le. boundary_passes i (λ k l.
      fine k (omega (arith, units_rise s (i + 1) (n + 1) (omega arith))))) in
      let apart : r.first < r.second = r.apart in
      let within : r.second ≤ n = r.within in
      record {
        first = r.first + 1;
        second = r.second + 1;
        some = omega arith;
        apart = omega arith;
        within = omega arith;
        same = r.same;
      }
