-- What document 02, request 6, asks of two ends, about what the exported call returns and leaves; the facts are those of the papers.
-- Assumes nothing.
use Rattle.std.specs.Prelude.{ℕ, ◌+◌, ◌<◌, ◌≡◌, ◌↔◌, ◌⊎◌, List, Option, get_or, length}
use Rattle.basis.specs.Rows.{First, Exactly}
use Rattle.job.specs.declared.Job.{Job}
use Rattle.job.specs.Job.{job_of}
use Rattle.job.specs.Rows as Job
use Rattle.section5.specs.Section5.{checks, verdicts, stability}
use Rattle.section5.specs.Harsher.{Harsher}
use Rattle.section5.specs.Poles.{NoHigher}
use Rattle.between.specs.Order.{Disordered}
use Rattle.between.specs.Between.{height_number}
use Rattle.rembilung.specs.Call.{entries_of, between_code, between_buffer}
use Rattle.rembilung.specs.Table.{Refuses, SheetStands, SheetRow}
use Rattle.rembilung.specs.Header.{Halves}

-- ---- 1, 2, then 3, 4, 5 of the mild job, 3, 4, 5 of the harsh job, 12; each row where those before it do not apply

pub data BetweenRow (sheet mild harsh : List ℕ) : ℕ → ℕ → Type 0 where
  -- 1, 2
  of_sheet : (n p : ℕ) → SheetRow sheet n p → BetweenRow sheet mild harsh n p
  -- 3, 4, 5 of the mild job (job/specs/Rows.antt)
  of_mild : SheetStands sheet → (n p : ℕ) → Job.Row (job_of mild) n p → BetweenRow sheet mild harsh n p
  -- and of the harsh job, whose places are 26 to 50
  of_harsh : SheetStands sheet → Job.Stands (job_of mild) → (n p : ℕ) → Job.Row (job_of harsh) n p → BetweenRow sheet mild harsh n (p + 25)
  -- 12, lowest field: unlike, or it runs the wrong way
  of_order : SheetStands sheet → Job.Stands (job_of mild) → Job.Stands (job_of harsh) → (p : ℕ) → First (Disordered (job_of mild) (job_of harsh)) p
      → BetweenRow sheet mild harsh 12 p

-- none applies: the sheet and both jobs stand, and the harsh job is no milder
pub record Ends (sheet mild harsh : List ℕ) : Type 0 where
  pub sheet_stands : SheetStands sheet
  pub mild_stands : Job.Stands (job_of mild)
  pub harsh_stands : Job.Stands (job_of harsh)
  pub ordered : Harsher (job_of mild) (job_of harsh)

-- a job that can be judged lies between the ends, by the order of demand 3 at both sides
pub record Lies (mild harsh : List ℕ) (j : Job) : Type 0 where
  pub stands : Job.Stands j
  pub from_mild : Harsher (job_of mild) j
  pub to_harsh : Harsher j (job_of harsh)

-- verdict i, from 0, that document 01 gives a job under a sheet of bytes, and its stability height
abbrev pub verdict_at : List ℕ → Job → ℕ → ℕ
verdict_at sheet j i = get_or (verdicts j (entries_of sheet)) i 0

abbrev pub height_of : List ℕ → Job → Option ℕ
height_of sheet j = stability j (entries_of sheet)

-- what the fourteen numbers say of two ends
pub record Says (sheet mild harsh answer : List ℕ) : Type 0 where
  pub fourteen : length answer ≡ 14
  -- of each check, 1, 2 or 3
  pub one_of : (i : ℕ) → i < checks → (get_or answer i 0 ≡ 1) ⊎ ((get_or answer i 0 ≡ 2) ⊎ (get_or answer i 0 ≡ 3))
  -- 1, passes throughout: it fails for no job between; 2, fails throughout: it fails for every one
  pub passes : (i : ℕ) → i < checks → get_or answer i 0 ≡ 1 → (j : Job) → Lies mild harsh j → verdict_at sheet j i ≡ 2 → ⊥
  pub fails : (i : ℕ) → i < checks → get_or answer i 0 ≡ 2 → (j : Job) → Lies mild harsh j → verdict_at sheet j i ≡ 2
  -- 3, undecided, exactly where the mild end does not fail and the harsh end does
  pub undecided : (i : ℕ) → i < checks → (get_or answer i 0 ≡ 3) ↔ ((verdict_at sheet (job_of mild) i ≡ 2 → ⊥) × (verdict_at sheet (job_of harsh) i ≡ 2))
  -- the ends' own stability heights, which bound those between
  pub mild_height : get_or answer 12 0 ≡ height_number (height_of sheet (job_of mild))
  pub harsh_height : get_or answer 13 0 ≡ height_number (height_of sheet (job_of harsh))
  pub heights : (j : Job) → Lies mild harsh j → NoHigher (height_of sheet j) (height_of sheet (job_of mild)) × NoHigher (height_of sheet (job_of harsh)) (height_of sheet j)

pub record Between : Type 0 where
  -- where a row of the table applies, its refusal and every number as it was; where none does, 14 and what the numbers say; and of every input it is exactly one of these
  pub refused : (sheet mild harsh before : List ℕ) (n p : ℕ) → BetweenRow sheet mild harsh n p → Refuses n p (between_code sheet mild harsh) before (between_buffer sheet mild harsh before)
  pub answered : (sheet mild harsh before : List ℕ) → Ends sheet mild harsh → (between_code sheet mild harsh ≡ 14) × Says sheet mild harsh (between_buffer sheet mild harsh before)
  pub exactly : (sheet mild harsh : List ℕ) → Exactly (BetweenRow sheet mild harsh) (Ends sheet mild harsh)
  -- the two halves of what is returned
  pub halves : (sheet mild harsh : List ℕ) → Halves (between_code sheet mild harsh) (BetweenRow sheet mild harsh) (Ends sheet mild harsh)
