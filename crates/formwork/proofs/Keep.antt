-- From a support to a harsher one each check keeps its failure.
-- Assumes nothing.
use mathlib.Core.List.{List}
use Prim.Native.Nat.{ℕ, ◌≤◌}
use native.Mathlib.Nat.{mul-le-mul_left}
use Rattle.basis.proofs.Order.{mono, ceil_grows}
use mathlib.Core.Path.{ap}
use Rattle.support.specs.declared.Support.{Support}
use Rattle.sheet.specs.Rows.{Stands}
use Rattle.section5.specs.Harsher.{HarsherSupport}
use Rattle.calculation.specs.Whole.{radius, force, force_wind}
use Rattle.calculation.proofs.Slenderness.{rounded_tenths_grows}
use Rattle.calculation.proofs.Growth.{wind_pressure_grows, wind_moment_grows, force_of_grows, force_wind_of_grows}
use Rattle.calculation.proofs.Keep.{bears_kept, bends_kept, base_kept, ground_kept}
use Rattle.calculation.proofs.Verdicts.{fails, Worse, none, next}
use Rattle.formwork.specs.Whole.{load, wk, mw, column_tenths, column_slenderness, column_of, verdicts}

module _ {s t : Support} (h : HarsherSupport s t) where
  wk_grows : wk s ≤ wk t
  unfolding wk
  wk_grows = wind_pressure_grows h.exposure (mul-le-mul_left 100 h.shape) h.wind

  mw_grows : mw s ≤ mw t
  unfolding mw
  mw_grows = wind_moment_grows wk_grows h.bay h.step

  column_slenderness_grows : column_slenderness s ≤ column_slenderness t
  unfolding column_tenths column_slenderness
  column_slenderness_grows = rounded_tenths_grows (ceil_grows (search mono depth 12) (ap radius h.tube))

  force_grows : force (load s) ≤ force (load t)
  force_grows = force_of_grows (mul-le-mul_left 20000 h.dead) (mul-le-mul_left 20000 h.live)

  force_wind_grows : force_wind (load s) ≤ force_wind (load t)
  force_wind_grows = force_wind_of_grows (mul-le-mul_left 20000 h.dead) (mul-le-mul_left 20000 h.live)

  module _ (sheet : List ℕ) (f : Stands sheet) where
    -- the row of a support
    abbrev pub row_of : Support → List ℕ
    row_of s = verdicts (column_of sheet s) s (mw s) (force (load s)) (force_wind (load s))

    pub worse : Worse (row_of s) (row_of t)
    unfolding verdicts column_of
    worse =
        next (λ e. e) (next (λ e. e) (next (λ e. e) (next (λ e. e) (next (λ e. e) (next (λ e. e)
        (next (fails (bears_kept sheet f h.tube column_slenderness_grows force_grows))
        (next (fails (bends_kept sheet f h.tube column_slenderness_grows force_wind_grows mw_grows))
        (next (λ e. e)
        (next (fails (base_kept force_grows))
        (next (fails (ground_kept s.soil t.soil h.soil h.strength h.pad force_grows))
        (next (λ e. e)
        none)))))))))))
