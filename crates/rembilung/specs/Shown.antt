-- What a reader sees in a report: the verdict in the line of a check, the stability height and the permitted height.
-- Assumes nothing.
use Rattle.std.specs.Prelude.{cond, ℕ, zero, suc, List, [], ◌∷◌, eqb, get_or, Option, None, Some}
use Rattle.section5.specs.Section5.{checks}
use Rattle.report.specs.Report.{space, line_end}
use Rattle.report.specs.ReadBack.{number_at}

-- what follows the first such byte
unfoldable pub after : ℕ → List ℕ → List ℕ
after b [] = []
after b (x ∷ xs) = cond (eqb x b) xs (after b xs)

-- what follows n line ends
unfoldable pub after_lines : ℕ → List ℕ → List ℕ
unfolding after
after_lines zero text = text
after_lines (suc n) text = after_lines n (after line_end text)

-- what follows the first space of line n, from 0
unfoldable pub shown_in : ℕ → List ℕ → List ℕ
unfolding after after_lines
shown_in n text = after space (after_lines n text)

-- the verdict of the check in line n, from 0: the number after the first space
unfoldable pub verdict_shown : List ℕ → ℕ → ℕ
unfolding shown_in
verdict_shown text n = number_at (shown_in n text)

-- the height at the front of some bytes: none where they begin with "n", the byte 110, else the number
unfoldable pub height_at : List ℕ → Option ℕ
height_at bytes = cond (eqb (get_or bytes 0 0) 110) None (Some (number_at bytes))

-- the stability height, in the line after those of the checks: what stands after the first space
unfoldable pub height_shown : List ℕ → Option ℕ
unfolding shown_in height_at
height_shown text = height_at (shown_in checks text)

-- the permitted height, in the same line: none in the same case, else what stands after the next space
unfoldable pub permitted_at : List ℕ → Option ℕ
unfolding after
permitted_at bytes = cond (eqb (get_or bytes 0 0) 110) None (Some (number_at (after space bytes)))

unfoldable pub permitted_shown : List ℕ → Option ℕ
unfolding shown_in permitted_at
permitted_shown text = permitted_at (shown_in checks text)
