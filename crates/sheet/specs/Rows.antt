-- Document 01, "Numbers for what can't be judged", rows 1 and 2, as facts of a sheet: which of them applies, or none.
-- Assumes nothing.
use Rattle.std.specs.Prelude.{ℕ, ◌-◌, ◌≤◌, ◌<◌, ◌≡◌, List, length, get_or}
use Rattle.basis.specs.Rows.{First, Follows}
use Rattle.sheet.specs.Sheet.{examination}

-- entry k is 0, above 1,000, above entry k−1, or k = 250 and below 117
pub data Faulty (sheet : List ℕ) (k : ℕ) : Type 0 where
  zero : get_or sheet k 0 ≡ 0 → Faulty sheet k
  great : 1000 < get_or sheet k 0 → Faulty sheet k
  rises : 0 < k → get_or sheet (k - 1) 0 < get_or sheet k 0 → Faulty sheet k
  low : k ≡ 250 → get_or sheet k 0 < 117 → Faulty sheet k

-- the row that applies, with its number and its place: 2 where 1 does not
pub data Row (sheet : List ℕ) : ℕ → ℕ → Type 0 where
  -- 1, length in entries: sheet isn't 251 entries
  other_length : (length sheet ≡ 251 → ⊥) → Row sheet 1 (length sheet)
  -- 2, first such k
  entry : (k : ℕ) → length sheet ≡ 251 → k ≤ 250 → First (Faulty sheet) k → Row sheet 2 k

-- none applies: the sheet can be read
pub record Stands (sheet : List ℕ) : Type 0 where
  pub long : length sheet ≡ 251
  pub entries : (k : ℕ) → k ≤ 250 → Faulty sheet k → ⊥

-- what is refused of a sheet is what the table says
pub record Told : Type 0 where
  pub told : (sheet : List ℕ) → Follows (examination sheet) (Row sheet) (Stands sheet)
