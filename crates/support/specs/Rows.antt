-- Row 3 of the table of what can't be judged, as a fact of a support: a field is outside its range, or none is.
-- Assumes nothing.
use Rattle.std.specs.Prelude.{ℕ, true, ◌∷◌, T, get_or}
use Rattle.basis.specs.Rows.{First, Follows}
use Rattle.support.specs.declared.Support.{Support}
use Rattle.support.specs.Examine.{ranges, examination}

-- field p is in its range; fields count from the first number, 3, as 1, and there is none after 13
unfoldable pub Inside : Support → ℕ → Type 0
Inside s p = T (get_or (true ∷ ranges s) p true)

unfoldable pub Outside : Support → ℕ → Type 0
unfolding Inside
Outside s p = Inside s p → ⊥

-- the row that applies, with its number and its place
pub data Row (s : Support) : ℕ → ℕ → Type 0 where
  -- 3, lowest field: outside its range
  outside : (p : ℕ) → First (Outside s) p → Row s 3 p

-- none applies: the support can be judged
pub record Stands (s : Support) : Type 0 where
  pub inside : (p : ℕ) → Inside s p

-- what is refused of a support is what the table says
pub record Told : Type 0 where
  pub told : (s : Support) → Follows (examination s) (Row s) (Stands s)
