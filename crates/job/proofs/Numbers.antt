-- A job and its 25 numbers: each gives the other back.
-- Assumes nothing.
use mathlib.Core.Path.{◌≡◌, refl}
use mathlib.Core.List.{List}
use Prim.Native.Nat.{ℕ}
use lib.ListN.{length}
use Rattle.basis.proofs.Entries.{entries, entries_all}
use Rattle.job.specs.declared.Job.{Job}
use Rattle.job.specs.Job.{job_of, numbers}

pub job_numbers : (j : Job) → job_of (numbers j) ≡ j
unfolding job_of numbers
job_numbers j = refl

pub numbers_job : (l : List ℕ) → length l ≡ 25 → numbers (job_of l) ≡ l
unfolding job_of numbers entries
numbers_job l e = entries_all l 25 0 e
