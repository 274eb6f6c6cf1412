-- Laws of the three comparisons that divide: a deflection, a pole's force, and force with bending.
-- Assumes nothing.
use mathlib.Core.Bool.{◌&&◌}
use mathlib.Core.Path.{◌≡◌, refl, ap, sym}
use Prim.Native.Nat.{ℕ, ◌+◌, ◌*◌, ◌-◌, ◌≤◌, ◌<◌}
use native.Mathlib.Nat.{mul-le-mul, mul-le-mul_left, mul-le-mul_right, le_of_eq, le_trans, le_of_mul-le-mul_left, mul-pos, add-sub_of_le}
use native.Mathlib.Omega.{arith}
use lib.Dec.{T, leb, leb→le, le→leb}
use Rattle.basis.proofs.Tests.{Keeps, both_keep, leb_keep, le_keep, leb_same}
use Rattle.sheet.specs.StabilityFactor.{Weaker}
use Rattle.calculation.specs.Parts.{Column}
use Rattle.calculation.specs.Whole.{deflects, bears, bends}

-- the span cancels
pub deflects_keep : {l m a b c c' : ℕ} → l ≤ m → a ≤ b → 0 < b → c ≡ c' → Keeps (deflects l a c) (deflects m b c')
unfolding deflects
deflects_keep {l} {m} {a} {b} {c} {c'} p q pos e =
    both_keep (leb_keep short) (le_keep (mul-le-mul p q) (mul-le-mul_left 10 (le_of_eq (sym e))))
  where
    short : 15 * (m * b) ≤ b * c' → 15 * (l * a) ≤ a * c
    short t =
        let u : b * (15 * m) ≤ b * c' = omega arith in
        let v : 15 * m ≤ c' = le_of_mul-le-mul_left u pos in
        let w : 15 * l ≤ c = omega arith in
        omega (arith, mul-le-mul_left a w)

pub deflects_short : (l a c : ℕ) → 0 < a → deflects l a c ≡ (leb (15 * l) c && leb (l * a) (10 * c))
unfolding deflects
deflects_short l a c pos = ap (λ b. b && leb (l * a) (10 * c)) (leb_same down (λ h. omega (arith, mul-le-mul_left a h)))
  where
    down : 15 * (l * a) ≤ a * c → 15 * l ≤ c
    down h = let u : a * (15 * l) ≤ a * c = omega arith in le_of_mul-le-mul_left u pos

-- n ≤ (o / u) c, from a greater n' under a weaker stability factor
carries : {n n' o u o' u' c c' : ℕ} → Weaker o u o' u' → n ≤ n' → c ≡ c' → n' * u' ≤ o' * c' → n * u ≤ o * c
carries {n} {n'} {o} {u} {o'} {u'} {c} {c'} f p e t =
    let a : u' * (n' * u) ≤ u' * (o * c') = omega (arith, mul-le-mul_right u t, mul-le-mul_right c' f.falls) in
    rw e (le_trans (mul-le-mul_right u p) (le_of_mul-le-mul_left a f.under))

module _ (c c' : Column) (f : Weaker c.over c.under c'.over c'.under) (ea : c.area ≡ c'.area) where
  pub bears_keep : {n n' : ℕ} → n ≤ n' → Keeps (bears c n) (bears c' n')
  unfolding bears
  bears_keep p = leb_keep (carries f p (ap (λ (x : ℕ). 205 * x) ea))

  -- the same with bending
  pub bends_keep : 0 < c'.area → c.modulus ≡ c'.modulus → {n n' m m' : ℕ} → n ≤ n' → m ≤ m' → Keeps (bends c n m) (bends c' n' m')
  unfolding bends
  bends_keep pos ew {n} {n'} {m} {m'} p q =
      record { keep = λ t. rw (ea, ew) (go c.over c.under c'.over c'.under c'.area c'.modulus f pos t) }
    where
      go : (o u o' u' a w : ℕ) → Weaker o u o' u' → 0 < a → T (leb (n' * u' * w + m' * o' * a) (205 * o' * a * w)) → T (leb (n * u * w + m * o * a) (205 * o * a * w))
      go o u o' u' a w f pos t =
          let h : n' * u' * w + m' * o' * a ≤ 205 * o' * a * w = leb→le (n' * u' * w + m' * o' * a) (205 * o' * a * w) t in
          let b : o' * a * m' ≤ o' * a * (205 * w) = omega arith in
          let room : m' ≤ 205 * w = le_of_mul-le-mul_left b (mul-pos f.over pos) in
          let c : ℕ = 205 * w - m' in
          let e : m' + c ≡ 205 * w = add-sub_of_le room in
          let g : n' * w * u' ≤ o' * (a * c) = omega (arith, ap (λ (x : ℕ). o' * a * x) e) in
          let r : n * w * u ≤ o * (a * c) = carries f (mul-le-mul_right w p) refl g in
          le→leb (n * u * w + m * o * a) (205 * o * a * w) (omega (arith, ap (λ (x : ℕ). o * a * x) e, mul-le-mul_right (o * a) q))
