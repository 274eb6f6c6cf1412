-- How much of a file decides what is read: 25 numbers of at most five bytes, and one byte more.
-- Assumes nothing.
use Rattle.std.specs.Prelude.{ℕ, ◌≡◌, List, take}
use Rattle.jobfile.specs.Read.{job_in}

abbrev pub beginning_length : ℕ
beginning_length = 126

-- the beginning of a file has the job, or the refusal and its place, of the whole
pub record Beginning : Type 0 where
  pub same_job : (file : List ℕ) → job_in (take beginning_length file) ≡ job_in file
