-- Reading a job file: refusals 6, 7, 3, 4 and 5, in that order, or the job, a scaffold or a support.
-- Assumes nothing.
use Rattle.std.specs.Prelude.{◌≡◌, ℕ, List, [], ◌∷◌, Result, Ok, Err}
use Rattle.basis.specs.Refusal.{number, place, Examined, first}
use Rattle.basis.specs.declared.Refusal.{Refusal}
use Rattle.job.specs.Job as Job
use Rattle.support.specs.Support as Support
use Rattle.groups.specs.Decode.{Bytes}
use Rattle.groups.specs.Numbers.{damage, values}
use Rattle.jobfile.specs.Kind.{Kind, scaffold, support, count, examination, kind_of, Marks}
use Rattle.jobfile.specs.declared.FileJob.{FileJob}
use Rattle.jobfile.specs.declared.FileJob.TheVariants.{Scaffold, Support}

-- what is refused of a file that is read as one of a kind: of its bytes, then of its numbers
abbrev pub refusal_as : Kind → List ℕ → Examined
refusal_as kind file = first (damage (count kind) 0 file) (examination kind (values (count kind) file))

-- the job of some numbers
abbrev pub job_as : Kind → List ℕ → FileJob
job_as scaffold ns = Scaffold (Job.job_of ns)
job_as support ns = Support (Support.support_of ns)

-- the job of a file that is read as one of a kind
abbrev pub read_as : Kind → List ℕ → Result FileJob Refusal
read_as kind file = first (refusal_as kind file) (Ok (job_as kind (values (count kind) file)))

-- the job of a file: a support where its first number is 3, else a scaffold as in document 01
unfoldable pub job_in : List ℕ → Result FileJob Refusal
job_in file = read_as (kind_of file) file

-- the papers' values for each answer: the numbers of the job, or the refusal's number and its place
abbrev pub read_values : Result FileJob Refusal → List ℕ
read_values (Ok (Scaffold j)) = Job.numbers j
read_values (Ok (Support s)) = Support.numbers s
read_values (Err refusal) = number refusal ∷ place refusal ∷ []

-- a file is read as what its first number marks, and as nothing else
pub record ReadAsMarked : Type 0 where
  pub read : (kind : Kind) (file : List ℕ) → Bytes file → Marks kind file → job_in file ≡ read_as kind file
