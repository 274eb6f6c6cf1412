-- Document 01, "Job file and report": the report of a judgement, byte by byte, and what writing it answers and leaves.
-- Assumes nothing.
use Rattle.std.specs.Prelude.{ℕ, suc, List, [], ◌∷◌, ◌++◌, length, Result}
use Rattle.basis.specs.declared.Refusal.{Refusal}
use Rattle.basis.specs.Writing.{room_refusal, written_or, left_or}
use Rattle.section5.specs.declared.Heights.{Heights}
use Rattle.section5.specs.declared.Heights.TheVariants.{NoLine, Nowhere, Both}
use Rattle.section5.specs.declared.Judgement.{Judgement}
use Rattle.report.specs.Digits.{digits_within, digits}

-- one space stands between the parts of a line
abbrev pub space : ℕ
space = 32

-- every line ends in one byte 0A (hexadecimal)
abbrev pub line_end : ℕ
line_end = 10

-- the digits of a number, and the byte after them
unfoldable pub number_then : ℕ → ℕ → List ℕ
number_then n after = digits n ++ (after ∷ [])

-- check, verdict, figure
unfoldable pub check_line : ℕ → ℕ → ℕ → List ℕ
check_line check verdict figure = number_then check space ++ (number_then verdict space ++ number_then figure line_end)

-- a line for each verdict and its figure, the checks counted from the first number on
unfoldable pub check_lines : ℕ → List ℕ → List ℕ → List ℕ
check_lines check [] figures = []
check_lines check (v ∷ verdicts) [] = []
check_lines check (v ∷ verdicts) (f ∷ figures) = check_line check v f ++ check_lines (suc check) verdicts figures

-- two numbers, with which a line ends
unfoldable pub pair : ℕ → ℕ → List ℕ
pair first second = number_then first space ++ number_then second line_end

-- a word, its space included, and two numbers
unfoldable pub pair_line : List ℕ → ℕ → ℕ → List ℕ
pair_line word first second = word ++ pair first second

-- "height "
abbrev pub height_word : List ℕ
height_word = 104 ∷ 101 ∷ 105 ∷ 103 ∷ 104 ∷ 116 ∷ 32 ∷ []

-- "none" and the line's end
abbrev pub none_word : List ℕ
none_word = 110 ∷ 111 ∷ 110 ∷ 101 ∷ 10 ∷ []

-- "wind "
abbrev pub wind_word : List ℕ
wind_word = 119 ∷ 105 ∷ 110 ∷ 100 ∷ 32 ∷ []

-- "column "
abbrev pub column_word : List ℕ
column_word = 99 ∷ 111 ∷ 108 ∷ 117 ∷ 109 ∷ 110 ∷ 32 ∷ []

-- both heights, stability first, or none; no line where heights are not asked for
unfoldable pub height_line : Heights → List ℕ
height_line NoLine = []
height_line Nowhere = height_word ++ none_word
height_line (Both stability permitted) = pair_line height_word stability permitted

abbrev pub wind_line : ℕ → ℕ → List ℕ
wind_line wk mw = pair_line wind_word wk mw

unfoldable pub column_line : ℕ → List ℕ
column_line z = column_word ++ number_then z line_end

-- on an `unfolding` line: all of the above
unfoldable pub lines : Unit {0}
unfolding digits_within digits number_then check_line check_lines pair pair_line height_line column_line
lines = tt

unfoldable pub report : Judgement → List ℕ
report g =
    check_lines 1 g.verdicts g.figures ++ (height_line g.heights ++ (wind_line g.wk g.mw ++ column_line g.z))

-- what writing it into a buffer answers: the length written, or refusal 8 with the length needed
abbrev pub report_written : Judgement → List ℕ → Result ℕ Refusal
report_written g out = written_or (room_refusal (report g) out) (length (report g))

-- and what it leaves in the buffer
abbrev pub report_left : Judgement → List ℕ → List ℕ
report_left g out = left_or (room_refusal (report g) out) (report g) out
