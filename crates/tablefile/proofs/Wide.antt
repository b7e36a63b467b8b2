-- A window above 16 is refused, whatever the history. Assumes nothing.
use Rattle.std.proofs.Common.{◌≡◌, ℕ, ◌<◌, true, false, cond, ltb, refl, ap, ◌∙◌, ⊎_elim, arith, lt-ltb}
use Rattle.std.proofs.str.Laws.{order}
use Rattle.refusal.specs.Tests.{outside}
use Rattle.firm.specs.Histories.{firm}
use Rattle.model.specs.Streams.{stream}

pub outside_above : (low high n : ℕ) → high < n → outside low high n ≡ true
outside_above low high n h = either (ltb n low)
  where
    either : (b : _) → cond b true (ltb high n) ≡ true
    either true = refl
    either false = lt-ltb high n h

pub firm_wide : (m k g h : ℕ) → 16 < k → firm m k g ≡ firm m k h
firm_wide m k g h wide = let e = outside_above 1 16 k wide in simp e

pub stream_wide : (t d c m k g h : ℕ) → 16 < k → stream t d c m k g ≡ stream t d c m k h
stream_wide t d c m k g h wide = let e = firm_wide m k g h wide in rw e

-- the history matters only where the window is small enough to be admitted
pub stream_same : (t d c m k h u e b n j g : ℕ) → t ≡ u → d ≡ e → c ≡ b → m ≡ n → k ≡ j → (k < 64 → h ≡ g) → stream t d c m k h ≡ stream u e b n j g
stream_same t d c m k h u e b n j g et ed ec em ek eh =
    ⊎_elim
    (λ small. let e = eh small in settle e)
    (λ wide. stream_wide t d c m k h g (omega arith) ∙ settle_at g)
    (order k 64)
  where
    settle_at : (x : ℕ) → stream t d c m k x ≡ stream u e b n j x
    settle_at x = cc (et, ed, ec, em, ek)

    settle : h ≡ g → stream t d c m k h ≡ stream u e b n j g
    settle same = settle_at h ∙ ap (stream u e b n j) same
