-- The permitted height does not fall as the stability height grows: in whole numbers, and so in the paper's fractions.
-- Assumes nothing.
use mathlib.Core.Path.{◌≡◌, refl, ap}
use mathlib.Core.Bool.{cond}
use Prim.Native.Nat.{ℕ, ◌+◌, ◌*◌, ◌-◌, ◌/◌, ◌≤◌, ◌<◌, min}
use native.Mathlib.Nat.{le_refl, le_trans, le-min, min-le_left, min-le_right, mul-le-mul_left, add-sub_of_le, le-div_iff_mul-le, div-le_of_le-mul}
use native.Mathlib.Omega.{arith}
use lib.Dec.{ltb}
use borrow.Author.Tests.{ltb-true, ltb-false}
use Rattle.basis.proofs.Tests.{cases}
use Rattle.section5.specs.Poles.{NeverLess}
use Rattle.calculation.specs.Whole.{permitted}
use Rattle.calculation.proofs.Same.{permitted_same}

quotient_grows : {H K : ℕ} → H ≤ K → 100000 * H / (100000 + H) ≤ 100000 * K / (100000 + K)
quotient_grows {H} {K} l =
    let q : ℕ = 100000 * H / (100000 + H) in
    let p : 0 < 100000 + H = omega arith in
    let r : 0 < 100000 + K = omega arith in
    let a : q * (100000 + H) ≤ 100000 * H = (le-div_iff_mul-le p).0 (le_refl q) in
    let most : 100000 * H ≤ (100000 + H) * 100000 = omega arith in
    let d : ℕ = 100000 - q in
    let e : q + d ≡ 100000 = add-sub_of_le (div-le_of_le-mul (100000 + H) {m = 100000 * H} most) in
    (le-div_iff_mul-le r).1 (omega (arith, a, mul-le-mul_left d l, ap (λ (x : ℕ). x * H) e, ap (λ (x : ℕ). x * K) e))

-- before the caps; 2,600 is where 2,534 comes from
reduced_grows : {H K : ℕ} → H ≤ K → cond (ltb H 2600) (min H 2534) (100000 * H / (100000 + H)) ≤ cond (ltb K 2600) (min K 2534) (100000 * K / (100000 + K))
reduced_grows {H} {K} l =
    cases (ltb H 2600)
    (λ t. cases (ltb K 2600) (λ u. rw (t, u) (omega arith))
    (λ u.
    let g : 2534 ≤ 100000 * K / (100000 + K) = quotient_grows {H = 2600} {K = K} (ltb-false K 2600 u) in
    rw (t, u) (le_trans (min-le_right H 2534) g)))
    (λ t. cases (ltb K 2600) (λ u. absurd (omega (arith, ltb-false H 2600 t, ltb-true K 2600 u))) (λ u. rw (t, u) (quotient_grows l)))

pub permitted_grows : {family family' H K : ℕ} → family ≡ family' → H ≤ K → permitted family H ≤ permitted family' K
permitted_grows e l = rw e (le-min (le_trans (min-le_left _ _) (reduced_grows l)) (min-le_right _ _))

pub never_less : NeverLess
never_less = record { grows = λ j H K l. rw (permitted_same j H, permitted_same j K) (permitted_grows refl l) }
