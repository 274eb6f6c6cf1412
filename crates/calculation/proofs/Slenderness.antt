-- A column slenderness, rounded: its whole-number form keeps the order and is the paper's, and so is where the stability factor is read. Of any slenderness.
-- Assumes nothing.
use mathlib.Core.Path.{◌≡◌, refl, sym, ◌∙◌}
use mathlib.Core.Bool.{Bool, true, false, cond}
use mathlib.Core.List.{List}
use Prim.Native.Nat.{ℕ, ◌+◌, ◌*◌, ◌-◌, ◌/◌, ◌%◌, ◌≤◌, ◌<◌}
use native.Mathlib.Omega.{arith}
use lib.Dec.{leb, lit<}
use borrow.Author.Tests.{leb-true, leb-false, le-leb, lt-leb}
use Rattle.basis.specs.Fraction.{Ratio, fractions, ceil, whole, tenths, ◌⊕◌, ◌⊗◌, ◌⊘◌, ◌², ◌≼◌, up, down}
use Rattle.basis.proofs.Tests.{cases, same, leb_same, tests}
use Rattle.basis.proofs.Order.{ceil_le, ceil_ceil}
use Rattle.basis.proofs.Scale.{up_is}
use Rattle.sheet.specs.StabilityFactor.{below, above}
use Rattle.section5.specs.Section5 as P
use Rattle.calculation.specs.Whole as W

pub rounded_tenths_grows : {t u : ℕ} → t ≤ u → W.rounded_tenths t ≤ W.rounded_tenths u
unfolding W.rounded_tenths ceil
rounded_tenths_grows {t} {u} l = go (leb t 2500) (leb u 2500) refl refl
  where
    go : (p q : Bool) → leb t 2500 ≡ p → leb u 2500 ≡ q → cond p t (10 * ((t + 9) / 10)) ≤ cond q u (10 * ((u + 9) / 10))
    go true true p q = l
    go true false p q = omega arith
    go false true p q = absurd (omega (arith, leb-false t 2500 p, leb-true u 2500 q))
    go false false p q = omega arith

-- up to 250.0, and above it
pub rounded_tenths_fine : {t : ℕ} → t ≤ 2500 → W.rounded_tenths t ≡ t
unfolding W.rounded_tenths
rounded_tenths_fine {t} l = rw (le-leb t 2500 l)

pub rounded_tenths_coarse : {t : ℕ} → 2500 < t → W.rounded_tenths t ≡ 10 * ceil t 10
unfolding W.rounded_tenths
rounded_tenths_coarse {t} l = rw (lt-leb t 2500 l)

-- the stability factor at t tenths up to 250.0, and at a whole number c above
line_is : (s : List ℕ) (t : ℕ) → t ≤ 2500 → P.stability_factor s (tenths t) ≡ P.entry s (below t) ⊗ tenths (10 - t % 10) ⊕ P.entry s (above t) ⊗ tenths (t % 10)
unfolding fractions up down ceil ◌≼◌ P.between P.stability_factor
line_is s t l =
    let part : t * 1 - t / 10 * 10 ≡ t % 10 = omega arith in
    let rest : 10 - t % 10 * 1 ≡ 10 - t % 10 = omega arith in
    rw (le-leb (t * 1) 2500 (omega arith), part, rest)

beyond_is : (s : List ℕ) (c : ℕ) → 250 < c → P.stability_factor s (whole c) ≡ whole 7320 ⊘ whole c ²
unfolding fractions ◌≼◌ P.stability_factor
beyond_is s c l = rw (lt-leb (c * 1) 250 (omega arith))

module _ (x : Ratio) (pos : 0 < x.under) where
  fine_same : (x ≼ whole 250) ≡ leb (up (whole 10 ⊗ x)) 2500
  unfolding fractions ◌≼◌ up
  fine_same =
      same _ (leb (10 * x.over) (2500 * (1 * x.under))) (omega tests)
      ∙ sym (leb_same (ceil_le (10 * x.over) (1 * x.under) 2500 (omega arith)).0 (ceil_le (10 * x.over) (1 * x.under) 2500 (omega arith)).1)

  coarse_same : up x ≡ ceil (up (whole 10 ⊗ x)) 10
  unfolding fractions up
  coarse_same =
      up_is x (10 * x.over) (10 * (1 * x.under)) (record { above = pos; below = omega arith; cross = omega arith })
      ∙ ceil_ceil (10 * x.over) (1 * x.under) 10 (omega arith) (lit< tt)

  -- t is the slenderness up to a tenth, in tenths
  module _ {t : ℕ} (is : up (whole 10 ⊗ x) ≡ t) where
    rounded_is : P.rounded x ≡ cond (leb t 2500) (tenths t) (whole (ceil t 10))
    unfolding P.rounded
    rounded_is = rw (fine_same, coarse_same, is)

    -- by the two cases: t tenths, or the whole number c above 250
    pub read_by : (s : List ℕ) (A : Ratio → ℕ → Type 0)
        → (t ≤ 2500 → A (P.entry s (below t) ⊗ tenths (10 - t % 10) ⊕ P.entry s (above t) ⊗ tenths (t % 10)) t)
        → ((c : ℕ) → 250 < c → A (whole 7320 ⊘ whole c ²) (10 * c))
        → A (P.stability_factor s (P.rounded x)) (W.rounded_tenths t)
    read_by s A f g =
        rw rounded_is
        (cases (leb t 2500)
        (λ e. let l = leb-true t 2500 e in rw (e, rounded_tenths_fine l, line_is s t l) (f l))
        (λ e.
        let l = leb-false t 2500 e in
        let m : 250 < ceil t 10 = unfold ceil in omega arith in
        rw (e, rounded_tenths_coarse l, beyond_is s (ceil t 10) m) (g (ceil t 10) m)))

    pub tenths_same : up (whole 10 ⊗ P.rounded x) ≡ W.rounded_tenths t
    tenths_same =
        rw rounded_is
        (cases (leb t 2500)
        (λ e. rw (e, rounded_tenths_fine (leb-true t 2500 e)) (unfold fractions up ceil in omega arith))
        (λ e. rw (e, rounded_tenths_coarse (leb-false t 2500 e)) (unfold fractions up ceil in omega arith)))
