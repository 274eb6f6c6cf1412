-- The marked cases of document 01 on what judging refuses: in each row what the definitions compute, and what the paper says.
-- Assumes nothing.
use Rattle.std.specs.Prelude.{ℕ, refl, List, [], ◌∷◌, set}
use Rattle.basis.specs.Search.{first_fail}
use Rattle.basis.specs.Marked.{Row, row, Hold, number_and_place}
use Rattle.job.specs.declared.Job.{Job}
use Rattle.job.specs.Job.{job_of}
use Rattle.job.specs.Ranges.{ranges, outside}
use Rattle.sheet.specs.Sheet as Sheet
use Rattle.job.specs.JobJ.{numbers_J, job_J}
use Rattle.sheet.specs.SheetT.{sheet_T}
use Rattle.judge.specs.Answer.{answer}

-- a single row of 24 m before a wall of this thickness
unfoldable pub single_with : ℕ → Job
unfolding job_of numbers_J
single_with thickness = job_of (set (set (set numbers_J 0 2) 6 2400) 19 thickness)

-- what judging a job under a sheet refuses
unfoldable pub refused : List ℕ → Job → List ℕ
refused sheet j = number_and_place (answer sheet j)

pub rows : List Row
unfolding sheet_T job_J single_with refused
rows =
    -- J is judged
    row (refused sheet_T job_J) (0 ∷ 0 ∷ [])
    -- sheet entry 250 at 117 stands, 116 is refused 2 at 250
    ∷ row (refused (set sheet_T 250 117) job_J) (0 ∷ 0 ∷ [])
    ∷ row (refused (set sheet_T 250 116) job_J) (2 ∷ 250 ∷ [])
    -- single row, thickness 181 stands, 180 is refused 5
    ∷ row (refused sheet_T (single_with 181)) (0 ∷ 0 ∷ [])
    ∷ row (refused sheet_T (single_with 180)) (5 ∷ 20 ∷ [])
    ∷ []

-- on an `unfolding` line: all that examining a sheet and a job computes
unfoldable pub examined : Unit {0}
unfolding sheet_T first_fail ranges outside Sheet.entry_stands Sheet.fault Sheet.first_fault
examined = tt

pub marked : Hold rows
unfolding Hold rows examined
marked = (refl, (refl, (refl, (refl, (refl, tt)))))
