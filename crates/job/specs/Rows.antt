-- Document 01, "Numbers for what can't be judged", rows 3, 4 and 5, as facts of a job: which of them applies, or none.
-- Assumes nothing.
use Rattle.std.specs.Prelude.{ℕ, ◌≤◌, ◌<◌, ◌≡◌, true, ◌∷◌, T, get_or}
use Rattle.basis.specs.Rows.{First, Follows}
use Rattle.job.specs.declared.Job.{Job}
use Rattle.job.specs.Ranges.{ranges}
use Rattle.job.specs.Examine.{examination}

-- field p is in its range; fields count from 1, and there is none after 25
unfoldable pub Inside : Job → ℕ → Type 0
Inside j p = T (get_or (true ∷ ranges j) p true)

unfoldable pub Outside : Job → ℕ → Type 0
unfolding Inside
Outside j p = Inside j p → ⊥

-- every field is in its range, and no two contradict each other
pub record Agrees (j : Job) : Type 0 where
  pub inside : (p : ℕ) → Inside j p
  pub layers : j.working ≤ j.boarded
  pub live : j.q ≤ j.total

-- the row that applies, with its number and its place: each where those before it do not
pub data Row (j : Job) : ℕ → ℕ → Type 0 where
  -- 3, lowest field: outside its range
  outside : (p : ℕ) → First (Outside j) p → Row j 3 p
  -- 4, 10 or else 12: field 10 exceeds field 9, or field 12 is below field 11
  layers : ((p : ℕ) → Inside j p) → j.boarded < j.working → Row j 4 10
  live : ((p : ℕ) → Inside j p) → j.working ≤ j.boarded → j.total < j.q → Row j 4 12
  -- 5, 20 or else 21: single row; thickness 180 or less, or make not 1
  thin : Agrees j → j.family ≡ 2 → j.thickness ≤ 180 → Row j 5 20
  weak : Agrees j → j.family ≡ 2 → 180 < j.thickness → (j.make ≡ 1 → ⊥) → Row j 5 21

-- none applies: the job can be judged
pub record Stands (j : Job) : Type 0 where
  pub agrees : Agrees j
  pub wall : j.family ≡ 2 → (180 < j.thickness) × (j.make ≡ 1)

-- what is refused of a job is what the table says
pub record Told : Type 0 where
  pub told : (j : Job) → Follows (examination j) (Row j) (Stands j)
