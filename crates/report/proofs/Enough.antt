-- The length that is enough: each line's greatest length, from how many digits its figures have at most.
-- Assumes nothing.
use mathlib.Core.Path.{◌≡◌}
use mathlib.Core.Bool.{Bool, cond}
use mathlib.Core.List.{List}
use Prim.Native.Nat.{ℕ, zero, suc, ◌^◌, ◌≤◌}
use native.Mathlib.Omega.{arith}
use lib.Dec.{T, ltb}
use lib.ListN.{length, length-append}
use Rattle.basis.proofs.Fits.{lt_below}
use Rattle.job.specs.declared.Job.{Job}
use Rattle.job.specs.Bounds.{Bounds}
use Rattle.job.specs.Rows.{Stands}
use Rattle.job.proofs.Bounds.{bounds}
use Rattle.support.specs.declared.Support.{Support}
use Rattle.support.specs.Rows.{Stands as SupportStands}
use Rattle.support.proofs.Bounds.{bounds as support_bounds}
use Rattle.section5.specs.declared.Heights.{Heights}
use Rattle.section5.specs.Section5.{verdict, judgement}
use Rattle.section5.specs.Formwork as Formwork
use Rattle.calculation.specs.Whole as W
use Rattle.calculation.proofs.Most as Most
use Rattle.calculation.proofs.Stability.{height_count_most}
use Rattle.calculation.proofs.Verdicts.{verdict_digit, height_digit, due_digit}
use Rattle.calculation.proofs.Same.{judgement_same}
use Rattle.formwork.specs.Whole as F
use Rattle.formwork.proofs.Most as SupportMost
use Rattle.formwork.proofs.Same.{judgement_same as support_same}
use Rattle.report.specs.Digits.{digits_within, digits}
use Rattle.report.specs.Report.{check_lines, height_line, report}
use Rattle.report.specs.Enough.{enough, support_enough, Enough}
use Rattle.report.proofs.Digits.{one_length, digits_most}
use Rattle.report.proofs.LineLengths.{check_line_length, pair_line_length, column_line_length}

-- a number of at most m has no more digits than m
width : (k : ℕ) {n : ℕ} (m : ℕ) → T (ltb m (10 ^ suc k)) → n ≤ m → length (digits n) ≤ suc k
width k {n} m t h = digits_most k n (lt_below m t h)

verdict_width : (b : Bool) → length (digits (verdict b)) ≡ 1
verdict_width b = one_length _ (verdict_digit b)

height_width : (height : ℕ) (h : Heights) → length (digits (W.verdict12 height h)) ≡ 1
height_width height h = one_length _ (height_digit height h)

due_width : (c b : Bool) → length (digits (cond c 0 (verdict b))) ≡ 1
due_width c b = one_length _ (due_digit c b)

checks_most : (s : List ℕ) (j : Job) → Bounds j → length (check_lines 1 (W.judgement s j).verdicts (W.judgement s j).figures) ≤ 129
unfolding digits_within digits check_lines W.judgement W.verdicts
checks_most s j r =
    let f1 = width 6 4400000 tt (Most.transom_moment_most r) in
    let f2 = width 4 99999 tt (Most.transom_deflection_most r) in
    let f3 = width 6 5000000 tt (Most.ledger_moment_most r) in
    let f4 = width 4 99999 tt (Most.ledger_deflection_most r) in
    let f5 = width 4 26000 tt (Most.slip_most r) in
    let f6 = width 2 999 tt (Most.slenderness_most r) in
    let f7 = width 5 142000 tt (Most.force_own_most r) in
    let f8 = width 5 142000 tt (Most.force_wind_own_most r) in
    let f9 = width 5 900000 tt (Most.tie_force_most r (Most.wk_most r)) in
    let f12 = width 3 5000 tt (Most.figure12_most j.family (W.count s j)) in
    simp (length-append, check_line_length, verdict_width, due_width, height_width) (omega arith)

height_most : (family n : ℕ) → n ≤ 6001 → length (height_line (W.heights family n)) ≤ 17
unfolding height_line
height_most family zero l = omega arith
height_most family (suc H) l =
    let k : H ≤ 6000 = omega arith in
    rw pair_line_length (omega (arith, width 3 6000 tt k, width 3 5000 tt (Most.permitted_most family H)))

job_most : (s : List ℕ) (j : Job) → Stands j → length (report (judgement j s)) ≤ enough
unfolding report W.judgement W.count
job_most s j a =
    let r = bounds j a in
    let c = checks_most s j r in
    let h = height_most j.family (W.count s j) (height_count_most _ _ _ _ _) in
    let w = width 4 17472 tt (Most.wk_most r) in
    let m = width 7 17000000 tt (Most.mw_most r) in
    let z = width 3 2930 tt (Most.column_slenderness_most r) in
    rw (judgement_same j s) (simp (length-append, pair_line_length, column_line_length) (omega arith))

support_most : (sheet : List ℕ) (s : Support) → SupportStands s → length (report (Formwork.judgement s sheet)) ≤ support_enough
unfolding digits_within digits report height_line check_lines F.judgement F.verdicts F.figures
support_most sheet s a =
    let r = support_bounds s a in
    let n = width 5 156000 tt (SupportMost.force_most r) in
    let v = width 5 156000 tt (SupportMost.force_wind_most r) in
    let w = width 4 17472 tt (SupportMost.wk_most r) in
    let m = width 7 17000000 tt (SupportMost.mw_most r) in
    let z = width 3 2930 tt (SupportMost.column_slenderness_most r) in
    rw (support_same s sheet) (simp (length-append, check_line_length, verdict_width, pair_line_length, column_line_length) (omega arith))

pub enough_is : Enough
enough_is = record { no_longer = job_most; support_no_longer = support_most }
