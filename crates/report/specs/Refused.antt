-- Document 01: a refusal is the line "refused", number, place.
-- Assumes nothing.
use Rattle.std.specs.Prelude.{ℕ, List, [], ◌∷◌}
use Rattle.report.specs.Report.{pair_line}

-- "refused "
abbrev pub refused_word : List ℕ
refused_word = 114 ∷ 101 ∷ 102 ∷ 117 ∷ 115 ∷ 101 ∷ 100 ∷ 32 ∷ []

abbrev pub refused_line : ℕ → ℕ → List ℕ
refused_line number place = pair_line refused_word number place
