-- The order of heights, of stability heights and the heights they permit, and the pole checks: those of a job at a height are verdicts 7 and 8 of the job with that height.
-- Assumes nothing.
use Rattle.std.specs.Prelude.{◌≡◌, List, ◌↔◌, ℕ, ◌≤◌, get_or, set, T, Option, None, Some}
use Rattle.job.specs.declared.Job.{Job}
use Rattle.job.specs.Job.{job_of, numbers}
use Rattle.section5.specs.Section5.{verdicts, poles, permitted}

-- the first height is no greater than the second; none counts as below 0
abbrev pub NoHigher : Option ℕ → Option ℕ → Type 0
NoHigher None second = Unit
NoHigher (Some H) None = ⊥
NoHigher (Some H) (Some K) = H ≤ K

-- H is up to a height; nothing is, where there is none
abbrev pub UpTo : ℕ → Option ℕ → Type 0
UpTo H None = ⊥
UpTo H (Some most) = H ≤ most

-- a stronger scaffold is never allowed less: in either family, at all heights, the permitted height does not fall as the stability height grows
pub record NeverLess : Type 0 where
  pub grows : (j : Job) (H K : ℕ) → H ≤ K → permitted j H ≤ permitted j K

-- the job with the height H for field 7, its other fields as they stand
unfoldable pub with_height : ℕ → Job → Job
unfolding job_of numbers
with_height H j = job_of (set (numbers j) 6 H)

-- at every H, whether or not field 7 allows it, the pole checks pass exactly where neither verdict 7 nor verdict 8 is 2, fails
pub record PolesAreVerdicts : Type 0 where
  pub pass : (j : Job) (sheet : List ℕ) (H : ℕ)
      → T (poles j sheet H) ↔ ((get_or (verdicts (with_height H j) sheet) 6 0 ≡ 2 → ⊥) × (get_or (verdicts (with_height H j) sheet) 7 0 ≡ 2 → ⊥))
