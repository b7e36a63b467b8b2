-- A sequence in which each value tells the next one comes round once a value stands at two places. Assumes nothing.
use Rattle.std.proofs.Common.{◌≡◌, ℕ, zero, suc, ◌+◌, ◌-◌, ◌*◌, ◌<◌, ◌≤◌, true, sym, ap, ◌∙◌, inl, inr, add-zero, suc-mul, mul-le-mul_left, zero-mul, arith}
use Rattle.std.proofs.lemmas.Bool.{cases_lt}
use Rattle.rounds.specs.Rounds.{Told, Round, LeastRound}

module _ {X : Type 0} (f : ℕ → X) (told : Told f) where
  -- equal values stay equal however far both places are moved
  pub moved_on : (i j n : ℕ) → f i ≡ f j → f (i + n) ≡ f (j + n)
  moved_on i j zero e = ap f (add-zero i) ∙ e ∙ ap f (sym (add-zero j))
  moved_on i j (suc n) e =
      let left : i + suc n ≡ i + n + 1 = omega arith in
      let right : j + suc n ≡ j + n + 1 = omega arith in
      ap f left ∙ told (i + n) (j + n) (moved_on i j n e) ∙ ap f (sym right)

  -- a value that stands again after a step: so does every later one
  pub again_from : (a step i : ℕ) → a ≤ i → f a ≡ f (a + step) → f (i + step) ≡ f i
  again_from a step i le e =
      let here : i ≡ a + (i - a) = omega arith in
      let there : i + step ≡ a + step + (i - a) = omega arith in
      ap f there ∙ sym (moved_on a (a + step) (i - a) e) ∙ ap f (sym here)

  -- and after any number of such steps
  pub again_times : (a step i n : ℕ) → a ≤ i → f a ≡ f (a + step) → f (i + n * step) ≡ f i
  again_times a step i zero le e = let none : i + zero * step ≡ i = omega (arith, zero-mul step) in ap f none
  again_times a step i (suc n) le e =
      let more : i + suc n * step ≡ i + n * step + step = omega (arith, suc-mul n step) in
      ap f more ∙ again_from a step (i + n * step) (omega arith) e ∙ again_times a step i n le e

  -- a property that equal values share, and that holds at the places below b, holds at all
  pub holds_on : (a b : ℕ) → a < b → f a ≡ f b → (Q : ℕ → Type 0) → ((i j : ℕ) → f i ≡ f j → Q i → Q j)
      → ((i : ℕ) → i < b → Q i) → (n i : ℕ) → i < n → Q i
  holds_on a b less e Q shared first zero i l = absurd (omega arith)
  holds_on a b less e Q shared first (suc n) i l = elim (cases_lt i b) [
    | inl low ↦ first i low
    | inr high ↦
        let step : ℕ = b - a in
        let whole : a + step ≡ b = omega arith in
        let back : i - step + step ≡ i = omega arith in
        shared (i - step) i (sym (again_from a step (i - step) (omega arith) (e ∙ ap f (sym whole))) ∙ ap f back)
        (holds_on a b less e Q shared first n (i - step) (omega arith))
  ]

  pub holds_always : (a b : ℕ) → a < b → f a ≡ f b → (Q : ℕ → Type 0) → ((i j : ℕ) → f i ≡ f j → Q i → Q j)
      → ((i : ℕ) → i < b → Q i) → (i : ℕ) → Q i
  holds_always a b less e Q shared first i = holds_on a b less e Q shared first (suc i) i (omega arith)

  -- two equal values up to mu + lam stand at mu and at mu + lam
  pub only_pair : (mu lam : ℕ) → LeastRound f mu lam → (i j : ℕ) → i < j → j ≤ mu + lam → f i ≡ f j → (i ≡ mu) × (j ≡ mu + lam)
  only_pair mu lam least i j less most e =
      let step : ℕ = j - i in
      let some : 0 < step = omega arith in
      let stepped : f i ≡ f (i + step) = let whole : j ≡ i + step = omega arith in e ∙ ap f whole in
      let far : ℕ = mu * step in
      let reach : mu ≤ far = omega (arith, mul-le-mul_left mu some) in
      let round : f (i + far + lam) ≡ f (i + far) = again_from mu lam (i + far) (omega arith) least.returns in
      let swap : i + lam + far ≡ i + far + lam = omega arith in
      let home : f i ≡ f (i + lam) =
      sym (again_times i step i mu (omega arith) stepped) ∙ sym round ∙ ap f (sym swap) ∙ again_times i step (i + lam) mu (omega arith) stepped in
      omega (arith, least.least_step i step some stepped, least.least_place i home)

  pub comes_round : (a b : ℕ) → a < b → f a ≡ f b → Round f a b
  comes_round a b less e =
      let whole : b ≡ a + (b - a) = omega arith in
      record {
        again = λ i le. again_from a (b - a) i le (e ∙ ap f whole);
        always = λ good first. holds_always a b less e (λ i. good (f i) ≡ true) (λ i j same q. ap good (sym same) ∙ q) first;
      }
