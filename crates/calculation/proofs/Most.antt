-- Each figure's greatest value, over a job whose fields are in their ranges.
-- Assumes nothing.
use mathlib.Core.Bool.{Bool, true, false, cond}
use Prim.Native.Nat.{ℕ, zero, suc, ◌+◌, ◌*◌, ◌-◌, ◌≤◌, zero-le}
use native.Mathlib.Nat.{le_refl, le_trans, min-le_right, mul-le-mul, mul-le-mul_left, mul-le-mul_right, div-le_of_le-mul}
use native.Mathlib.Omega.{arith}
use lib.Dec.{T, leb, eqb, lit≤}
use Rattle.basis.specs.Fraction.{ceil}
use Rattle.basis.proofs.Order.{mono}
use Rattle.basis.proofs.Tests.{cond_below}
use Rattle.basis.proofs.Fits.{ceil_below}
use Rattle.job.specs.declared.Job.{Job}
use Rattle.job.specs.Bounds.{Bounds}
use Rattle.section5.proofs.LengthFactor.{length_factor_most}
use Rattle.calculation.specs.Parts.{Load, Column}
use Rattle.calculation.specs.Whole.{board, rail, overhang, shape_unit, tie_base, height_limit, shape, wind_pressure, wind_moment, wk, mw, deck, fittings, deck_live, load, force, force_wind, rounded_tenths, column_tenths, column_slenderness, slenderness, transom_moment, transom_load, transom_deflection, ledger_moment, ledger_load, ledger_deflection, slip, face, tie_force, figure12, permitted, heights}
use Rattle.calculation.specs.Division.{limit7, limit8}
use Rattle.calculation.specs.Bounded.{WithinSixteen, Proper}
use Rattle.calculation.proofs.Slenderness.{rounded_tenths_grows}

pub board_most : (b : ℕ) → board b ≤ 350
board_most b = cond_below (eqb b 1) (lit≤ tt) (le_refl 350)

pub rail_most : (b : ℕ) → rail b ≤ 140
rail_most b = cond_below (eqb b 1) (lit≤ tt) (le_refl 140)

pub overhang_most : (f : ℕ) → overhang f ≤ 30
overhang_most f = cond_below (eqb f 1) (le_refl 30) (lit≤ tt)

pub tie_base_most : (f : ℕ) → tie_base f ≤ 5000
tie_base_most f = cond_below (eqb f 1) (le_refl 5000) (lit≤ tt)

pub shape_unit_most : (e w : ℕ) → shape_unit e w ≤ 156
shape_unit_most e w = cond_below (eqb e 1) (lit≤ tt) (mul-le-mul_left 12 (cond_below (eqb w 1) (lit≤ tt) (le_refl 13)))

pub permitted_most : (f H : ℕ) → permitted f H ≤ 5000
permitted_most f H = le_trans (min-le_right _ (height_limit f)) (cond_below (eqb f 1) (le_refl 5000) (lit≤ tt))

pub figure12_most : (f n : ℕ) → figure12 (heights f n) ≤ 5000
figure12_most f zero = zero-le
figure12_most f (suc H) = permitted_most f H

-- a division up by a number that depends on the tube
pub tube_below : {n m : ℕ} (tube : ℕ) (f : ℕ → ℕ) (x y b : ℕ) → T (leb (ceil b (f x)) m) → T (leb (ceil b (f y)) m) → n ≤ b → ceil n (f (cond (eqb tube 1) x y)) ≤ m
tube_below {n} {m} tube f x y b p q h = go (eqb tube 1)
  where
    go : (t : Bool) → ceil n (f (cond t x y)) ≤ m
    go true = ceil_below (f x) b p h
    go false = ceil_below (f y) b q h

pub shape_most : (enclosure wall : ℕ) {shield : ℕ} → shield ≤ 2000 → shape enclosure wall shield ≤ 312000
shape_most enclosure wall l = mul-le-mul (shape_unit_most enclosure wall) l

pub wind_pressure_most : {exposure form wind : ℕ} → exposure ≤ 4000 → form ≤ 312000 → wind ≤ 2000 → wind_pressure exposure form wind ≤ 17472
unfolding wind_pressure ceil
wind_pressure_most e s w = ceil_below 1000000000 (7 * 4000 * 312000 * 2000) tt (search mono depth 12)

pub wind_moment_most : {w la step : ℕ} → w ≤ 17472 → la ≤ 200 → step ≤ 200 → wind_moment w la step ≤ 17000000
unfolding wind_moment ceil
wind_moment_most w a s = ceil_below 1000000 (119 * 17472 * 200 * (200 * 200)) tt (search mono depth 12)

pub rounded_tenths_most : {t : ℕ} → t ≤ 2930 → rounded_tenths t ≤ 2930
unfolding rounded_tenths ceil
rounded_tenths_most l = rounded_tenths_grows {u = 2930} l

pub deck_most : (family : ℕ) {lb : ℕ} → lb ≤ 155 → deck family lb ≤ 155 + 30
deck_most family l = search (mono, overhang_most) depth 12

pub face_most : {ties step la : ℕ} → ties ≤ 3 → step ≤ 200 → la ≤ 200 → face ties step la ≤ 3 * 200 * (3 * 200)
face_most t s a = search mono depth 12

module _ {j : Job} (r : Bounds j) where
  pub wk_most : wk j ≤ 17472
  unfolding wk
  wk_most = wind_pressure_most r.exposure (shape_most j.enclosure j.wall r.shield) r.wind

  pub mw_most : mw j ≤ 17000000
  unfolding mw
  mw_most = wind_moment_most wk_most r.la r.step

  pub deck_live_most : deck_live j ≤ 1110000000
  unfolding deck_live
  deck_live_most = le_trans {m = 30000 * 200 * (155 + 30)} (search (mono, deck_most j.family r.lb) depth 12) (lit≤ tt)

  pub fittings_most : fittings j ≤ 280000000
  unfolding fittings
  fittings_most =
      le_trans {m = 10 * 350 * 200 * (155 + 30) + 200 * 9 * 140 * 200 + 20000 * 5000}
      (search (mono, board_most, rail_most, deck_most j.family r.lb) depth 12) (lit≤ tt)

  pub transom_moment_most : transom_moment j ≤ 4400000
  unfolding transom_moment ceil
  transom_moment_most = ceil_below 160000 ((12 * 350 + 14 * 10000) * 200 * (155 * 155)) tt (search (mono, board_most) depth 12)

  pub column_tenths_most : column_tenths j ≤ 2930
  unfolding column_tenths ceil
  column_tenths_most = tube_below j.tube (λ i. 100 * i) 158 170 (1155 * 200 * 200) tt tt (search (mono, length_factor_most) depth 12)

  pub column_slenderness_most : column_slenderness j ≤ 2930
  unfolding column_slenderness
  column_slenderness_most = rounded_tenths_most column_tenths_most

  pub slenderness_most : slenderness j ≤ 999
  unfolding slenderness ceil
  slenderness_most = tube_below j.tube (λ i. i) 158 170 (200 * 200) tt tt (search (mono, length_factor_most) depth 12)

  pub ledger_moment_most : ledger_moment j ≤ 5000000
  unfolding ledger_moment ceil
  ledger_moment_most = ceil_below 40000000 ((2100 * 350 + 2982 * 10000) * (200 * 200) * 155) tt (search (mono, board_most) depth 12)

  pub slip_most : slip j ≤ 26000
  unfolding slip ceil
  slip_most = ceil_below 40000000 ((2580 * 350 + 3220 * 10000) * 200 * 155) tt (search (mono, board_most) depth 12)

  pub tie_force_most : {w : ℕ} → w ≤ 17472 → tie_force j w ≤ 900000
  unfolding tie_force ceil
  tie_force_most l = ceil_below 100000 (14 * 17472 * (3 * 200 * (3 * 200)) + 100000 * 5000) tt (search (mono, face_most r.ties r.step r.la, tie_base_most) depth 12)

  pub transom_load_most : transom_load j ≤ (350 + 10000) * 200 * (155 * 155 * 155)
  unfolding transom_load
  transom_load_most = search (mono, board_most) depth 12

  pub ledger_load_most : ledger_load j ≤ (1146 * 350 + 1615 * 10000) * (200 * 200 * 200) * 155
  unfolding ledger_load
  ledger_load_most = search (mono, board_most) depth 12

  pub transom_deflection_most : transom_deflection j ≤ 99999
  unfolding transom_deflection ceil
  transom_deflection_most = tube_below j.tube (λ i. 1536 * (206000 * i)) 121900 130800 (1000 * ((350 + 10000) * 200 * (155 * 155 * 155) * 155)) tt tt (search (mono, transom_load_most) depth 12)

  pub ledger_deflection_most : ledger_deflection j ≤ 99999
  unfolding ledger_deflection ceil
  ledger_deflection_most = tube_below j.tube (λ i. 4000 * (206000 * i)) 121900 130800 ((1146 * 350 + 1615 * 10000) * (200 * 200 * 200) * 155 * 200) tt tt (search (mono, ledger_load_most) depth 12)

  -- N and Nw at the job's own height
  pub force_own_most : force (load j j.height) ≤ 142000
  unfolding force load ceil
  force_own_most = ceil_below 200000 (12 * (200 * 500 * 5000 + 280000000) + 14 * 1110000000) tt (search (mono, fittings_most, deck_live_most) depth 12)

  pub force_wind_own_most : force_wind (load j j.height) ≤ 142000
  unfolding force_wind load ceil
  force_wind_own_most = ceil_below 2000000 (120 * (200 * 500 * 5000 + 280000000) + 119 * 1110000000) tt (search (mono, fittings_most, deck_live_most) depth 12)

module _ (l : Load) (w : WithinSixteen l) where
  pub force_most : force l ≤ 1543200
  unfolding force ceil
  force_most = ceil_below 200000 (12 * 5000000000 + 14 * 17760000000) tt (search mono depth 12)

  pub force_wind_most : force_wind l ≤ 1543200
  unfolding force_wind ceil
  force_wind_most = ceil_below 2000000 (120 * 5000000000 + 119 * 17760000000) tt (search mono depth 12)

-- no column bears more than A f, its stability factor being at most 1
module _ {c : Column} (s : Proper c) where
  pub limit7_most : limit7 c ≤ 100245
  unfolding limit7
  limit7_most =
      le_trans {m = 205 * c.area} (div-le_of_le-mul c.under {m = c.over * (205 * c.area)} (mul-le-mul_right (205 * c.area) s.at_most_one))
      (mul-le-mul_left 205 s.area_most)

  pub limit8_most : (m : ℕ) → limit8 c m ≤ 100245
  unfolding limit8
  limit8_most m =
      let d : 205 * c.modulus - m ≤ 205 * c.modulus = omega arith in
      let p : c.over * c.area * (205 * c.modulus - m) ≤ c.under * c.area * (205 * c.modulus) = search (mono, s.at_most_one) in
      le_trans {m = 205 * c.area} (div-le_of_le-mul (c.under * c.modulus) {m = c.over * c.area * (205 * c.modulus - m)} (omega arith))
      (mul-le-mul_left 205 s.area_most)
