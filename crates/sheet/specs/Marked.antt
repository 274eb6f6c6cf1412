-- A marked case of document 01 on the sheet's bytes: each entry has its low byte first.
-- Assumes nothing.
use Rattle.std.specs.Prelude.{refl, List, [], ◌∷◌}
use Rattle.basis.specs.Marked.{Row, row, Hold}
use Rattle.sheet.specs.Bytes.{entries}

pub rows : List Row
rows = row (entries (232 ∷ 3 ∷ 228 ∷ 3 ∷ []) 2) (1000 ∷ 996 ∷ []) ∷ []  -- sheet T begins E8 03 E4 03 (hexadecimal)

pub marked : Hold rows
unfolding Hold rows entries
marked = (refl, tt)
