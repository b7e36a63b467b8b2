-- The lines of a true answer with its figures. Assumes nothing.
use Rattle.std.proofs.Common.{◌≡◌, ℕ, Bool, List, [], ◌∷◌, ◌++◌, Some, None, ap, ◌∙◌}
use Rattle.std.proofs.lemmas.Bool.{true≢false}
use Rattle.std.proofs.lemmas.List.{append_assoc}
use Rattle.model.specs.Figures.{Measures, figures}
use Rattle.model.specs.Forecast.{Tells}
use Rattle.model.specs.Machine.{State}
use Rattle.model.specs.Ready.{Ready}
use Rattle.laws.specs.Sound.{Sound}
use Rattle.laws.proofs.Held.{held_sound}
use Rattle.promise.proofs.Single.{one_answer}
use Rattle.bench.specs.Answers.{answer_of}
use Rattle.bench.specs.Figures.{figures_of}
use Rattle.bench.specs.Texts.{forecast_text, figures_text}
use Rattle.bench.specs.declared.answer.Forecast.{Forecast}
use Rattle.bench.specs.declared.answer.Forecast.TheVariants.{Holds, Fails}
use Rattle.bench.specs.declared.figures.Figures.{Figures}
use Rattle.forecast_report.specs.Answers.{Foretold, lines}
use Rattle.forecast_report.specs.Lines.{holding, figured}

module _ (before : Ready → Ready → Bool) (s : State) (sound : ∥ Sound s ∥₁) where
  -- the one true answer
  told : (f : Forecast) → Tells before s (answer_of f) → (bytes : List ℕ) → bytes ≡ lines before s (answer_of f) → Foretold before s bytes
  told f tells bytes e =
      record { answer = answer_of f; tells = tells; only = λ b u. one_answer before s (held_sound s sound) b (answer_of f) u tells; is = e }

  -- with figures it holds
  pub told_with :
      (f : Forecast) (x : Figures) → Tells before s (answer_of f) → Measures before s (Some (figures_of x)) → (bytes : List ℕ)
      → bytes ≡ forecast_text f ++ ((10 ∷ []) ++ (figures_text x ++ (10 ∷ []))) → Foretold before s bytes
  told_with (Holds i j) x tells measures bytes e =
      let same : figures_of x ≡ figures before s i j = let m = measures.holding i j tells in cc in
      let regrouped : forecast_text (Holds i j) ++ ((10 ∷ []) ++ (figures_text x ++ (10 ∷ []))) ≡ holding i j ++ figured (figures_of x) = simp append_assoc in
      told (Holds i j) tells bytes (e ∙ regrouped ∙ ap (λ y. holding i j ++ figured y) same)
  told_with (Fails g) x tells measures bytes e = let m = measures.failing _ tells in absurd (true≢false cc)

  -- without them it fails
  pub told_without :
      (f : Forecast) → Tells before s (answer_of f) → Measures before s None → (bytes : List ℕ)
      → bytes ≡ forecast_text f ++ (10 ∷ []) → Foretold before s bytes
  told_without (Holds i j) tells measures bytes e = let m = measures.holding i j tells in absurd (true≢false cc)
  told_without (Fails g) tells measures bytes e = told (Fails g) tells bytes (e ∙ simp append_assoc)
