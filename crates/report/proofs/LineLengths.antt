-- How long each line is, by the digits of its numbers.
-- Assumes nothing.
use mathlib.Core.Path.{◌≡◌}
use mathlib.Core.List.{List}
use Prim.Native.Nat.{ℕ, ◌+◌}
use native.Mathlib.Omega.{arith}
use lib.ListN.{length, length-append}
use Rattle.report.specs.Digits.{digits}
use Rattle.report.specs.Report.{check_line, pair, pair_line, column_line}
use Rattle.report.proofs.Numbers.{number_then_length}

pub check_line_length : (check verdict figure : ℕ)
    → length (check_line check verdict figure) ≡ length (digits check) + length (digits verdict) + length (digits figure) + 3
unfolding check_line
check_line_length check verdict figure = simp (length-append, number_then_length) (omega arith)

pub pair_line_length : (word : List ℕ) (first second : ℕ)
    → length (pair_line word first second) ≡ length word + length (digits first) + length (digits second) + 2
unfolding pair pair_line
pair_line_length word first second = simp (length-append, number_then_length) (omega arith)

pub column_line_length : (z : ℕ) → length (column_line z) ≡ length (digits z) + 8
unfolding column_line
column_line_length z = simp number_then_length (omega arith)
