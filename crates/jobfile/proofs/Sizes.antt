-- How many bytes each number of an accepted job takes: at most 42 in all, and 24 of a support.
-- Assumes nothing.
use Prim.Native.Nat.{ℕ, ◌≤◌}
use mathlib.Core.Path.{◌≡◌}
use mathlib.Core.List.{List, [], ◌∷◌}
use native.Mathlib.Omega.{arith}
use lib.ListN.{length}
use Rattle.job.specs.Job as Job
use Rattle.job.specs.Bounds.{Bounds as JobBounds}
use Rattle.job.specs.declared.Job.{Job}
use Rattle.job.proofs.Bounds.{bounds as job-bounds}
use Rattle.job.proofs.Numbers.{numbers_job}
use Rattle.support.specs.Support as Support
use Rattle.support.specs.Bounds.{Bounds as SupportBounds}
use Rattle.support.specs.declared.Support.{Support}
use Rattle.support.proofs.Bounds.{bounds as support-bounds}
use Rattle.support.proofs.Numbers.{numbers_support}
use Rattle.groups.specs.Encode.{encode_all}
use Rattle.groups.specs.Rows.{Narrow}
use Rattle.groups.proofs.Encode.{cap}
use Rattle.groups.proofs.Sizes.{Sized, sized_length}
use Rattle.jobfile.specs.Kind.{Kind, scaffold, support, count, Stands}
use Rattle.jobfile.specs.Write.{greatest_length}

-- how many groups stand before the last of each number at most, in their order
abbrev sizes : Kind → List ℕ
sizes scaffold = 0 ∷ 0 ∷ 1 ∷ 1 ∷ 1 ∷ 0 ∷ 1 ∷ 0 ∷ 0 ∷ 0 ∷ 1 ∷ 2 ∷ 1 ∷ 1 ∷ 1 ∷ 1 ∷ 0 ∷ 1 ∷ 0 ∷ 1 ∷ 0 ∷ 2 ∷ 0 ∷ 1 ∷ 1 ∷ []
sizes support = 0 ∷ 0 ∷ 1 ∷ 0 ∷ 1 ∷ 2 ∷ 2 ∷ 1 ∷ 1 ∷ 1 ∷ 0 ∷ 1 ∷ 1 ∷ []

job_sized : (j : Job) → JobBounds j → Sized (sizes scaffold) (Job.numbers j)
unfolding Job.numbers cap
job_sized j b = omega arith

support_sized : (s : Support) → SupportBounds s → Sized (sizes support) (Support.numbers s)
unfolding Support.numbers cap
support_sized s b = omega arith

sized : (k : Kind) (ns : List ℕ) → length ns ≡ count k → Stands k ns → Sized (sizes k) ns
sized scaffold ns l s = rw (numbers_job ns l) at (job_sized (Job.job_of ns) (job-bounds (Job.job_of ns) s))
sized support ns l s = rw (numbers_support ns l) at (support_sized (Support.support_of ns) (support-bounds (Support.support_of ns) s))

pub file_short : (k : Kind) (ns : List ℕ) → length ns ≡ count k → Stands k ns → length (encode_all ns) ≤ greatest_length k
file_short scaffold ns l s = sized_length (sizes scaffold) ns (sized scaffold ns l s)
file_short support ns l s = sized_length (sizes support) ns (sized support ns l s)

job_narrow : (j : Job) → JobBounds j → Narrow (Job.numbers j)
unfolding Job.numbers
job_narrow j b = omega arith

support_narrow : (s : Support) → SupportBounds s → Narrow (Support.numbers s)
unfolding Support.numbers
support_narrow s b = omega arith

pub narrow : (k : Kind) (ns : List ℕ) → length ns ≡ count k → Stands k ns → Narrow ns
narrow scaffold ns l s = rw (numbers_job ns l) at (job_narrow (Job.job_of ns) (job-bounds (Job.job_of ns) s))
narrow support ns l s = rw (numbers_support ns l) at (support_narrow (Support.support_of ns) (support-bounds (Support.support_of ns) s))
