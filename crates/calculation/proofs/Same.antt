-- Each figure and each check of Section5 is the whole-number form that the code works out, for every job.
-- Assumes nothing.
use mathlib.Core.Path.{◌≡◌, refl, ap, ap₂, ◌∙◌, fun_ext}
use mathlib.Core.Bool.{Bool, ◌&&◌, cond}
use mathlib.Core.List.{List}
use Prim.Native.Nat.{ℕ, zero, suc, ◌+◌, ◌*◌, ◌/◌, ◌<◌, min}
use native.Mathlib.Omega.{arith}
use lib.Dec.{leb, ltb, eqb, lit<}
use borrow.Author.Tests.{le-leb, lt-leb, lt-ltb, ltb-true, ltb-false}
use Rattle.basis.specs.Search.{top}
use Rattle.basis.specs.Fraction.{Ratio, fractions, whole, hundredths, ◌⊕◌, ◌⊗◌, ◌⊘◌, ◌÷◌, ◌≼◌, up, down}
use Rattle.basis.proofs.Tests.{cases, same, tests}
use Rattle.basis.proofs.Scale.{up_is, up_by, down_is}
use Rattle.job.specs.declared.Job.{Job}
use Rattle.sheet.specs.StabilityFactor.{above, line, over, under}
use Rattle.section5.specs.Decimals.{0·001}
use Rattle.section5.specs.Section5.{verdict}
use Rattle.section5.specs.Section5 as P
use Rattle.calculation.specs.Whole as W
use Rattle.calculation.specs.Whole.{from_count}
use Rattle.calculation.proofs.Stability.{greatest_top}
use Rattle.calculation.proofs.Slenderness.{read_by, tenths_same}

above_tens : (c : ℕ) → above (10 * c) ≡ c
above_tens c = omega arith

-- checks 7, 8, 10 and 11 of any force; 7 and 8 under any sheet, at a slenderness x that is t tenths up
module _ (x : Ratio) (pos : 0 < x.under) {t : ℕ} (is : up (whole 10 ⊗ x) ≡ t) (s : List ℕ) (tube n : ℕ) where
  pub bears_same : P.bears (P.stability_factor s (P.rounded x)) (P.tube_area tube) n ≡ W.bears (W.column_at s tube (W.rounded_tenths t)) n
  unfolding fractions ◌≼◌ P.given P.entry P.bears line over under W.bears
  bears_same =
      read_by x pos is s (λ φ z. P.bears φ (P.tube_area tube) n ≡ W.bears (W.column_at s tube z) n)
      (λ l. rw (le-leb t 2500 l) (same _ _ (omega tests)))
      (λ c l. rw (lt-leb (10 * c) 2500 (omega arith), above_tens c) (same _ _ (omega tests)))

  pub bends_same : (m : ℕ) → P.bends (P.stability_factor s (P.rounded x)) (P.tube_area tube) (P.tube_modulus tube) n m ≡ W.bends (W.column_at s tube (W.rounded_tenths t)) n m
  unfolding fractions ◌≼◌ P.given P.entry P.bends line over under W.bends
  bends_same m =
      read_by x pos is s (λ φ z. P.bends φ (P.tube_area tube) (P.tube_modulus tube) n m ≡ W.bends (W.column_at s tube z) n m)
      (λ l. rw (le-leb t 2500 l) (same _ _ (omega tests)))
      (λ c l. rw (lt-leb (10 * c) 2500 (omega arith), above_tens c) (same _ _ (omega tests)))

pub base_bears_same : (n : ℕ) → P.base_bears n ≡ W.base_bears n
unfolding fractions ◌≼◌ P.base_bears
base_bears_same n = same _ _ (omega tests)

pub ground_bears_same : (soil strength pad n : ℕ) → P.ground_bears soil strength pad n ≡ W.ground_bears soil strength pad n
unfolding fractions ◌≼◌ P.given P.ground_capacity P.ground_bears
ground_bears_same soil strength pad n = same _ _ (omega tests)

-- Mw of wk, bay and step
pub wind_moment_same : (w la step : ℕ) → P.wind_moment w (hundredths la) (hundredths step) ≡ W.wind_moment w la step
unfolding fractions P.mm P.wind_moment W.wind_moment
wind_moment_same w la step = up_is _ _ _ (omega arith)

module _ (j : Job) where
  pub wk_same : P.wk j ≡ W.wk j
  unfolding fractions P.given P.shape P.wind_pressure P.wk W.wind_pressure W.wk
  wk_same =
      cases (P.is_open j) (λ e. rw e (up_is _ _ _ (omega arith)))
      (λ e. cases (eqb j.wall 1) (λ u. rw (e, u) (up_is _ _ _ (omega arith))) (λ u. rw (e, u) (up_is _ _ _ (omega arith))))

  pub N_same : (H : ℕ) → P.N j H ≡ W.force (W.load j H)
  unfolding fractions P.given P.b P.G1 P.G2 P.L P.exact_N P.N W.fittings W.deck_live W.load W.force
  N_same H = cases (P.double j) (λ e. rw e (up_is _ _ _ (omega arith))) (λ e. rw e (up_is _ _ _ (omega arith)))

  pub Nw_same : (H : ℕ) → P.Nw j H ≡ W.force_wind (W.load j H)
  unfolding fractions P.given P.b P.G1 P.G2 P.L P.exact_Nw P.Nw W.fittings W.deck_live W.load W.force_wind
  Nw_same H = cases (P.double j) (λ e. rw e (up_is _ _ _ (omega arith))) (λ e. rw e (up_is _ _ _ (omega arith)))

  pub moment1_same : P.moment1 j ≡ W.transom_moment j
  unfolding fractions P.given P.moment1 W.transom_moment
  moment1_same = up_is _ _ _ (omega arith)

  pub Mw_same : P.Mw j ≡ W.mw j
  unfolding P.la P.h P.Mw W.mw
  Mw_same = rw wk_same (wind_moment_same (W.wk j) j.la j.step)

  pub moment3_same : P.moment3 j ≡ W.ledger_moment j
  unfolding fractions P.given P.Fg P.Fq P.moment3 W.ledger_moment
  moment3_same = up_is _ _ _ (omega arith)

  pub slip_same : P.slip j ≡ W.slip j
  unfolding fractions P.given P.Fg P.Fq P.slip W.slip
  slip_same = up_is _ _ _ (omega arith)

  pub tie_force_same : P.tie_force j ≡ W.tie_force j (W.wk j)
  unfolding fractions P.given P.tie_force W.tie_force
  tie_force_same = rw wk_same (up_is _ _ _ (omega arith))

  column_tenths_same : up (whole 10 ⊗ P.exact_Z j) ≡ W.column_tenths j
  unfolding fractions P.given P.exact_Z W.column_tenths
  column_tenths_same = up_by 100000 _ _ _ (omega arith)

  exact_Z_pos : 0 < (P.exact_Z j).under
  unfolding fractions P.given P.exact_Z
  exact_Z_pos = cases (eqb j.tube 1) (λ e. rw e (lit< tt)) (λ e. rw e (lit< tt))

  pub column_same : P.column j ≡ W.column_slenderness j
  unfolding P.Z P.column W.column_slenderness
  column_same = tenths_same (P.exact_Z j) exact_Z_pos column_tenths_same

  check1_same : P.check1 j ≡ W.check1 j
  unfolding fractions ◌≼◌ P.given P.check1
  check1_same = rw moment1_same (same _ _ (omega tests))

  check2_same : P.check2 j ≡ W.check2 j
  unfolding fractions ◌≼◌ P.given P.deflection2 P.check2 W.deflects W.transom_load
  check2_same =
      let short : (P.deflection2 j ≼ P.mm (P.lb j) ÷ 150) ≡ leb (15 * (W.transom_load j * j.lb)) (j.lb * (1536 * W.stiffness j.tube)) = same _ _ (omega tests) in
      let most : (P.deflection2 j ≼ whole 10) ≡ leb (W.transom_load j * j.lb) (10 * (1536 * W.stiffness j.tube)) = same _ _ (omega tests) in
      ap₂ ◌&&◌ short most

  check3_same : P.check3 j ≡ W.check3 j
  unfolding fractions ◌≼◌ P.given P.check3
  check3_same = rw moment3_same (same _ _ (omega tests))

  check4_same : P.check4 j ≡ W.check4 j
  unfolding fractions ◌≼◌ P.given P.Pg P.Pq P.deflection4 P.check4 W.deflects W.ledger_load
  check4_same =
      let short : (P.deflection4 j ≼ P.mm (P.la j) ÷ 150) ≡ leb (15 * (W.ledger_load j * j.la)) (j.la * (4000000 * W.stiffness j.tube)) = same _ _ (omega tests) in
      let most : (P.deflection4 j ≼ whole 10) ≡ leb (W.ledger_load j * j.la) (10 * (4000000 * W.stiffness j.tube)) = same _ _ (omega tests) in
      ap₂ ◌&&◌ short most

  check5_same : P.check5 j ≡ W.check5 j
  unfolding fractions ◌≼◌ P.given P.check5
  check5_same = rw slip_same (same _ _ (omega tests))

  check6_same : P.check6 j ≡ W.check6 j
  unfolding fractions ◌≼◌ P.given P.slenderness P.check6
  check6_same = same _ _ (omega tests)

  pub check7_same : (s : List ℕ) (H : ℕ) → P.check7 j s H ≡ W.bears (W.column_of s j) (W.force (W.load j H))
  unfolding P.A P.Z P.φ P.check7 W.column_slenderness W.column_of
  check7_same s H = rw (N_same H) (bears_same (P.exact_Z j) exact_Z_pos column_tenths_same s j.tube (W.force (W.load j H)))

  pub check8_same : (s : List ℕ) (H : ℕ) → P.check8 j s H ≡ W.bends (W.column_of s j) (W.force_wind (W.load j H)) (W.mw j)
  unfolding P.A P.W P.Z P.φ P.check8 W.column_slenderness W.column_of
  check8_same s H = rw (Nw_same H, Mw_same) (bends_same (P.exact_Z j) exact_Z_pos column_tenths_same s j.tube (W.force_wind (W.load j H)) (W.mw j))

  pub not_due_same : P.not_due j ≡ W.not_due j
  unfolding fractions ◌≼◌ P.given P.not_due
  not_due_same =
      let calm : (P.w0 j ≼ whole 350) ≡ leb j.wind 350 = same _ _ (omega tests) in
      let near : (P.t j ⊗ P.h j ⊗ (whole 3 ⊗ P.la j) ≼ whole 30) ≡ leb (W.face j.ties j.step j.la) 300000 = same _ _ (omega tests) in
      ap₂ ◌&&◌ calm (ap (λ b. P.is_open j && b) near)

  check9_same : P.check9 j ≡ W.check9 j (W.wk j)
  unfolding fractions ◌≼◌ P.given P.check9
  check9_same = rw tie_force_same (same _ _ (omega tests))

  check10_same : P.check10 j ≡ W.base_bears (W.force (W.load j j.height))
  unfolding P.check10
  check10_same = rw (N_same j.height) (base_bears_same _)

  check11_same : P.check11 j ≡ W.ground_bears j.soil j.strength j.pad (W.force (W.load j j.height))
  unfolding P.check11
  check11_same = rw (N_same j.height) (ground_bears_same _ _ _ _)

  sag2_same : up (whole 1000 ⊗ P.deflection2 j) ≡ W.transom_deflection j
  unfolding fractions P.given P.deflection2 W.transom_load W.transom_deflection
  sag2_same = up_by 5000000000000 _ _ _ (omega arith)

  sag4_same : up (whole 1000 ⊗ P.deflection4 j) ≡ W.ledger_deflection j
  unfolding fractions P.given P.Pg P.Pq P.deflection4 W.ledger_load W.ledger_deflection
  sag4_same = up_by 40000000000000000000 _ _ _ (omega arith)

  slenderness_same : up (P.slenderness j) ≡ W.slenderness j
  unfolding fractions P.given P.slenderness W.slenderness
  slenderness_same = up_by 10000 _ _ _ (omega arith)

  pub poles_same : (s : List ℕ) (H : ℕ) → P.poles j s H ≡ W.poles (W.column_of s j) (W.deck_load j) j.weight (W.mw j) (W.not_due j) H
  unfolding P.poles W.poles W.load
  poles_same s H = rw (check7_same s H, check8_same s H, not_due_same)

  pub stability_same : (s : List ℕ) → P.stability j s ≡ from_count (W.count s j)
  unfolding P.stability W.count W.height_count
  stability_same s = greatest_top (P.poles j s) 6000 ∙ ap (λ (p : ℕ → Bool). from_count (top p 6001)) (fun_ext (poles_same s))

  pub permitted_same : (H : ℕ) → P.permitted j H ≡ W.permitted j.family H
  unfolding P.permitted
  permitted_same H = rw (permitted_at H, reduced (100000 * H / (100000 + H)))
    where
      permitted_at : (H : ℕ) → down (whole 100 ⊗ (hundredths H ⊘ (whole 1 ⊕ 0·001 ⊗ hundredths H))) ≡ 100000 * H / (100000 + H)
      permitted_at H = unfold fractions in down_is _ (100000 * H) (100000 + H) (omega arith)

      reduced : (q : ℕ) → cond (ltb H 2535) H (cond (ltb H 2600) 2534 q) ≡ cond (ltb H 2600) (min H 2534) q
      reduced q =
          cases (ltb H 2535) (λ t. let l = ltb-true H 2535 t in rw (t, lt-ltb H 2600 (omega arith)) (omega arith))
          (λ t. let l = ltb-false H 2535 t in rw t (cases (ltb H 2600) (λ u. rw u (omega arith)) (λ u. rw u refl)))

  heights_same : (n : ℕ) → P.heights j (from_count n) ≡ W.heights j.family n
  unfolding P.heights
  heights_same zero = refl
  heights_same (suc H) = rw (permitted_same H)

  check12_same : (n : ℕ) → verdict (P.check12 j (from_count n)) ≡ W.verdict12 j.height (W.heights j.family n)
  unfolding P.check12
  check12_same zero = refl
  check12_same (suc H) = rw (permitted_same H)

  figure12_same : (n : ℕ) → P.figure12 j (from_count n) ≡ W.figure12 (W.heights j.family n)
  unfolding P.figure12
  figure12_same zero = refl
  figure12_same (suc H) = permitted_same H

  pub verdicts_same : (s : List ℕ) → P.verdicts j s ≡ W.verdicts (W.column_of s j) j (W.wk j) (W.mw j) (W.force (W.load j j.height)) (W.force_wind (W.load j j.height)) (W.not_due j) (W.heights j.family (W.count s j))
  unfolding P.verdicts W.verdicts
  verdicts_same s = rw (check1_same, check2_same, check3_same, check4_same, check5_same, check6_same, check7_same s j.height, check8_same s j.height, not_due_same, check9_same, check10_same, check11_same, stability_same s, check12_same (W.count s j))

  pub figures_same : (s : List ℕ) → P.figures j s ≡ W.figures j (W.wk j) (W.force (W.load j j.height)) (W.force_wind (W.load j j.height)) (W.heights j.family (W.count s j))
  unfolding P.figures
  figures_same s = rw (moment1_same, sag2_same, moment3_same, sag4_same, slip_same, slenderness_same, N_same j.height, Nw_same j.height, tie_force_same, stability_same s, figure12_same (W.count s j))

  pub judgement_same : (s : List ℕ) → P.judgement j s ≡ W.judgement s j
  unfolding P.judgement W.judgement
  judgement_same s = rw (verdicts_same s, figures_same s, stability_same s, heights_same (W.count s j), wk_same, Mw_same, column_same)
