-- Each figure's greatest value, over a support whose fields are in their ranges.
-- Assumes nothing.
use Prim.Native.Nat.{◌+◌, ◌*◌, ◌≤◌}
use native.Mathlib.Nat.{le_trans, mul-le-mul_left}
use lib.Dec.{lit≤}
use Rattle.basis.specs.Fraction.{ceil}
use Rattle.basis.proofs.Order.{mono}
use Rattle.basis.proofs.Fits.{ceil_below}
use Rattle.support.specs.declared.Support.{Support}
use Rattle.support.specs.Bounds.{Bounds}
use Rattle.calculation.specs.Whole.{force, force_wind}
use Rattle.calculation.proofs.Most.{tube_below, wind_pressure_most, wind_moment_most, rounded_tenths_most}
use Rattle.formwork.specs.Whole.{load, wk, mw, column_tenths, column_slenderness}

module _ {s : Support} (r : Bounds s) where
  pub wk_most : wk s ≤ 17472
  unfolding wk
  wk_most = wind_pressure_most r.exposure (le_trans (mul-le-mul_left 100 r.shape) (lit≤ tt)) r.wind

  pub mw_most : mw s ≤ 17000000
  unfolding mw
  mw_most = wind_moment_most wk_most r.bay r.step

  pub column_tenths_most : column_tenths s ≤ 2930
  unfolding column_tenths ceil
  column_tenths_most = tube_below s.tube (λ i. i) 158 170 (1000 * (200 + 2 * 100)) tt tt (search mono depth 12)

  pub column_slenderness_most : column_slenderness s ≤ 2930
  unfolding column_slenderness
  column_slenderness_most = rounded_tenths_most column_tenths_most

  pub force_most : force (load s) ≤ 156000
  unfolding force ceil
  force_most = ceil_below 200000 (12 * (20000 * 60000) + 14 * (20000 * 60000)) tt (search mono depth 12)

  pub force_wind_most : force_wind (load s) ≤ 156000
  unfolding force_wind ceil
  force_wind_most = ceil_below 2000000 (120 * (20000 * 60000) + 119 * (20000 * 60000)) tt (search mono depth 12)
