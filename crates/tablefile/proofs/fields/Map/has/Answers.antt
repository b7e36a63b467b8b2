use Rattle.std.proofs.Common.{◌≡◌, ℕ, ◌/◌, ◌%◌, ◌==◌, ◌^◌, ◌<◌, ◌≤◌, Bool, true, false, cond, ltb, sym, refl, ap, ◌∙◌, arith, ltb-false}
use Rattle.std.proofs.Math.Nat.{div-eq_of_lt}
use Rattle.std.proofs.Math.Pow.{pow_mono}
use Rattle.tablefile.proofs.fields.Map.has.Goals as goal

-- nothing is left of a byte that is shifted out
shifted : (map bit : ℕ) → map < 256 → (t : Bool) → ltb bit 8 ≡ t → cond t (map / 2 ^ bit) 0 ≡ map / 2 ^ bit
shifted map bit byte true e = refl
shifted map bit byte false e =
    let high : 2 ^ 8 ≤ 2 ^ bit = pow_mono (ltb-false bit 8 e) in
    let out : map < 2 ^ bit = omega (arith, high) in
    sym (div-eq_of_lt out)

pub returns : goal.returns
returns c =
    let byte : c.args.self.0 < 256 = omega arith in
    ap (λ n. n % 2 == 1)
    (c.unbounded_shr.ensures
    ∙ ap (λ b. cond (ltb b 8) (c.args.self.0 / 2 ^ b) 0) c.from.ensures
    ∙ shifted c.args.self.0 c.args.bit byte (ltb c.args.bit 8) refl)
