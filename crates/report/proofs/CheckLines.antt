-- Laws of the lines of the checks: the next line, and that nothing is left after the last.
-- Assumes nothing.
use mathlib.Core.Path.{◌≡◌, refl}
use mathlib.Core.List.{List, [], ◌∷◌, ◌++◌}
use Prim.Native.Nat.{ℕ, ◌+◌}
use native.Mathlib.Numerals.{add-one}
use native.Mathlib.Omega.{arith}
use lib.ListN.{length}
use Rattle.report.specs.Report.{check_line, check_lines}

pub lines_next : {xs ys vs fs : List ℕ} {v f : ℕ} (check : ℕ) → xs ≡ v ∷ vs → ys ≡ f ∷ fs
    → check_lines check xs ys ≡ check_line check v f ++ check_lines (check + 1) vs fs
unfolding check_lines
lines_next check a b = rw (a, b, add-one)

pub no_verdict : (check : ℕ) (xs ys : List ℕ) → length xs ≡ 0 → check_lines check xs ys ≡ []
unfolding check_lines
no_verdict check [] ys e = refl
no_verdict check (a ∷ xs) ys e = absurd (omega arith)

pub no_figure : (check : ℕ) (xs ys : List ℕ) → length ys ≡ 0 → check_lines check xs ys ≡ []
unfolding check_lines
no_figure check [] ys e = refl
no_figure check (a ∷ xs) [] e = refl
no_figure check (a ∷ xs) (b ∷ ys) e = absurd (omega arith)
