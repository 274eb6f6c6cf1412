-- Each figure and each check of clause 5.6 is the whole-number form that the code works out, for every support.
-- Assumes nothing.
use mathlib.Core.Path.{◌≡◌}
use mathlib.Core.List.{List}
use Prim.Native.Nat.{ℕ, ◌<◌}
use native.Mathlib.Omega.{arith}
use lib.Dec.{eqb, lit<}
use Rattle.basis.specs.Fraction.{fractions, whole, ◌⊗◌, up}
use Rattle.basis.proofs.Tests.{cases}
use Rattle.basis.proofs.Scale.{up_is, up_by}
use Rattle.support.specs.declared.Support.{Support}
use Rattle.section5.specs.Section5.{given, wind_pressure}
use Rattle.section5.specs.Formwork as P
use Rattle.calculation.specs.Whole as C
use Rattle.calculation.proofs.Slenderness.{tenths_same}
use Rattle.calculation.proofs.Same.{bears_same, bends_same, base_bears_same, ground_bears_same, wind_moment_same}
use Rattle.formwork.specs.Whole as W

module _ (s : Support) where
  wk_same : P.wk s ≡ W.wk s
  unfolding fractions wind_pressure P.exposure P.shape P.w0 P.wk C.wind_pressure W.wk
  wk_same = up_is _ _ _ (omega arith)

  Mw_same : P.Mw s ≡ W.mw s
  unfolding P.bay P.h P.Mw W.mw
  Mw_same = rw wk_same (wind_moment_same (W.wk s) s.bay s.step)

  N_same : P.N s ≡ C.force (W.load s)
  unfolding fractions P.dead P.live P.exact_N P.N C.force
  N_same = up_is _ _ _ (omega arith)

  Nw_same : P.Nw s ≡ C.force_wind (W.load s)
  unfolding fractions P.dead P.live P.exact_Nw P.Nw C.force_wind
  Nw_same = up_is _ _ _ (omega arith)

  column_tenths_same : up (whole 10 ⊗ P.exact_Z s) ≡ W.column_tenths s
  unfolding fractions given P.h P.a P.i P.l0 P.exact_Z W.column_tenths
  column_tenths_same = up_by 10000 _ _ _ (omega arith)

  exact_Z_pos : 0 < (P.exact_Z s).under
  unfolding fractions given P.h P.a P.i P.l0 P.exact_Z
  exact_Z_pos = cases (eqb s.tube 1) (λ e. rw e (lit< tt)) (λ e. rw e (lit< tt))

  column_same : P.column s ≡ W.column_slenderness s
  unfolding P.Z P.column W.column_slenderness
  column_same = tenths_same (P.exact_Z s) exact_Z_pos column_tenths_same

  check7_same : (sheet : List ℕ) → P.check7 s sheet ≡ C.bears (W.column_of sheet s) (C.force (W.load s))
  unfolding P.A P.Z P.φ P.check7 W.column_slenderness W.column_of
  check7_same sheet = rw N_same (bears_same (P.exact_Z s) exact_Z_pos column_tenths_same sheet s.tube (C.force (W.load s)))

  check8_same : (sheet : List ℕ) → P.check8 s sheet ≡ C.bends (W.column_of sheet s) (C.force_wind (W.load s)) (W.mw s)
  unfolding P.A P.W P.Z P.φ P.check8 W.column_slenderness W.column_of
  check8_same sheet = rw (Nw_same, Mw_same) (bends_same (P.exact_Z s) exact_Z_pos column_tenths_same sheet s.tube (C.force_wind (W.load s)) (W.mw s))

  check10_same : P.check10 s ≡ C.base_bears (C.force (W.load s))
  unfolding P.check10
  check10_same = rw N_same (base_bears_same _)

  check11_same : P.check11 s ≡ C.ground_bears s.soil s.strength s.pad (C.force (W.load s))
  unfolding P.check11
  check11_same = rw N_same (ground_bears_same _ _ _ _)

  verdicts_same : (sheet : List ℕ) → P.verdicts s sheet ≡ W.verdicts (W.column_of sheet s) s (W.mw s) (C.force (W.load s)) (C.force_wind (W.load s))
  unfolding P.verdicts W.verdicts
  verdicts_same sheet = rw (check7_same sheet, check8_same sheet, check10_same, check11_same)

  figures_same : P.figures s ≡ W.figures (C.force (W.load s)) (C.force_wind (W.load s))
  unfolding P.figures W.figures
  figures_same = rw (N_same, Nw_same)

  pub judgement_same : (sheet : List ℕ) → P.judgement s sheet ≡ W.judgement sheet s
  unfolding P.judgement W.judgement
  judgement_same sheet = rw (verdicts_same sheet, figures_same, wk_same, Mw_same, column_same)
