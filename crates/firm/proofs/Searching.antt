-- Laws of a bounded search and of the least number. Assumes nothing.
use Rattle.std.proofs.Common.{◌≡◌, ℕ, zero, suc, ◌+◌, ◌-◌, ◌<◌, ◌≤◌, Bool, true, false, inl, inr, arith}
use Rattle.std.proofs.lemmas.Bool.{both_ways, cases_Bool, cases_lt, cases_eq, cond-true, cond-false}
use Rattle.firm.specs.Searches.{first_from, Least}

-- one try more: the search stops at j, or goes on past it
pub first_here : (test : ℕ → Bool) (tries j : ℕ) → test j ≡ true → first_from test (suc tries) j ≡ j
unfolding first_from
first_here test tries j e = cond-true (test j) j (first_from test tries (suc j)) e

pub first_later : (test : ℕ → Bool) (tries j : ℕ) → test j ≡ false → first_from test (suc tries) j ≡ first_from test tries (suc j)
unfolding first_from
first_later test tries j e = cond-false (test j) j (first_from test tries (suc j)) e

-- the same of tries that are counted down
pub first_stops : (test : ℕ → Bool) (tries j : ℕ) → 0 < tries → test j ≡ true → first_from test tries j ≡ j
first_stops test zero j some e = absurd (omega arith)
first_stops test (suc tries) j some e = first_here test tries j e

pub first_goes_on : (test : ℕ → Bool) (tries j : ℕ) → 0 < tries → test j ≡ false → first_from test tries j ≡ first_from test (tries - 1) (j + 1)
first_goes_on test zero j some e = absurd (omega arith)
first_goes_on test (suc tries) j some e =
    let less : suc tries - 1 ≡ tries = omega arith in
    let more : j + 1 ≡ suc j = omega arith in
    rw (less, more) (first_later test tries j e)

pub first_within : (test : ℕ → Bool) (tries j : ℕ) → first_from test tries j ≤ j + tries
unfolding first_from
first_within test zero j = omega arith
first_within test (suc tries) j = elim (cases_Bool (test j)) [
  | inl e ↦ omega (arith, first_here test tries j e)
  | inr e ↦ omega (arith, first_later test tries j e, first_within test tries (suc j))
]

-- it is none below the start
pub first_above : (test : ℕ → Bool) (tries j : ℕ) → j ≤ first_from test tries j
unfolding first_from
first_above test zero j = omega arith
first_above test (suc tries) j = elim (cases_Bool (test j)) [
  | inl e ↦ omega (arith, first_here test tries j e)
  | inr e ↦ omega (arith, first_later test tries j e, first_above test tries (suc j))
]

-- none before it passes
pub first_before : (test : ℕ → Bool) (tries j i : ℕ) → j ≤ i → i < first_from test tries j → test i ≡ false
unfolding first_from
first_before test zero j i h b = absurd (omega arith)
first_before test (suc tries) j i h b = elim (cases_Bool (test j)) [
  | inl e ↦ absurd (omega (arith, first_here test tries j e))
  | inr e ↦ elim (cases_eq j i) [
    | inl same ↦ rw same at e
    | inr apart ↦ first_before test tries (suc j) i (omega arith) (omega (arith, first_later test tries j e))
  ]
]

-- it passes, where one within the tries does
pub first_holds : (test : ℕ → Bool) (tries j n : ℕ) → j ≤ n → n ≤ j + tries → test n ≡ true → test (first_from test tries j) ≡ true
unfolding first_from
first_holds test zero j n low high p = let same : j ≡ n = omega arith in rw same p
first_holds test (suc tries) j n low high p = elim (cases_Bool (test j)) [
  | inl e ↦ rw (first_here test tries j e) e
  | inr e ↦ elim (cases_eq j n) [
    | inl same ↦ absurd (both_ways (test j) e (rw same p))
    | inr apart ↦ rw (first_later test tries j e) (first_holds test tries (suc j) n (omega arith) (omega arith) p)
  ]
]

-- it is at most any other that passes
pub first_at_most : (test : ℕ → Bool) (tries j i : ℕ) → j ≤ i → test i ≡ true → first_from test tries j ≤ i
first_at_most test tries j i h t =
    elim (cases_lt i (first_from test tries j)) [ inl b ↦ absurd (both_ways (test i) (first_before test tries j i h b) t) | inr le ↦ le ]

pub first_least : (test : ℕ → Bool) (tries n : ℕ) → n ≤ tries → test n ≡ true → Least (λ i. test i ≡ true) (first_from test tries 0)
first_least test tries n h p = record {
  holds = first_holds test tries 0 n (omega arith) (omega arith) p;
  before = λ i b t. both_ways (test i) (first_before test tries 0 i (omega arith) b) t;
}

pub least_below : (P : ℕ → Type 0) (m n : ℕ) → Least P m → P n → m ≤ n
least_below P m n l p = elim (cases_lt n m) [ inl b ↦ absurd (l.before n b p) | inr h ↦ h ]

pub least_unique : (P : ℕ → Type 0) (m n : ℕ) → Least P m → Least P n → m ≡ n
least_unique P m n l l' = omega (arith, least_below P m n l l'.holds, least_below P n m l' l.holds)
