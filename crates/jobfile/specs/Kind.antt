-- The two kinds of job, by their numbers: 25 of a scaffold, 13 of a support; and which of them a file is read as.
-- Assumes nothing.
use Rattle.std.specs.Prelude.{ℕ, Bool, cond, List, [], ◌∷◌, eqb}
use Rattle.basis.specs.Refusal.{Examined}
use Rattle.job.specs.Job.{job_of}
use Rattle.job.specs.Examine.{examination as job_examination}
use Rattle.job.specs.Rows as Job
use Rattle.support.specs.Support.{support_of}
use Rattle.support.specs.Examine.{examination as support_examination}
use Rattle.support.specs.Rows as Support
use Rattle.groups.specs.Decode.{decode}
use Rattle.groups.specs.Numbers.{value_of}
use Rattle.groups.specs.Rows.{Starts}

pub data Kind : Type 0 where
  scaffold : Kind
  support : Kind

-- how many numbers there are
abbrev pub count : Kind → ℕ
count scaffold = 25
count support = 13

-- what is refused of them: 3, 4 and 5, or 3
abbrev pub examination : Kind → List ℕ → Examined
examination scaffold ns = job_examination (job_of ns)
examination support ns = support_examination (support_of ns)

-- the same as facts: the row that applies, and that none does
abbrev pub Row : Kind → List ℕ → ℕ → ℕ → Type 0
Row scaffold ns = Job.Row (job_of ns)
Row support ns = Support.Row (support_of ns)

abbrev pub Stands : Kind → List ℕ → Type 0
Stands scaffold ns = Job.Stands (job_of ns)
Stands support ns = Support.Stands (support_of ns)

-- a first number of 3 marks a support
unfoldable pub marks_support : List ℕ → Bool
marks_support file = eqb (value_of (decode file)) 3

unfoldable pub kind_of : List ℕ → Kind
kind_of file = cond (marks_support file) support scaffold

-- the same as a fact
abbrev pub Marks : Kind → List ℕ → Type 0
Marks scaffold file = (rest : List ℕ) → Starts file (3 ∷ []) rest → ⊥
Marks support file = (rest : List ℕ) × Starts file (3 ∷ []) rest
