-- What is certain of job files of both kinds, of the definitions by which `read`, `write` and `write_support` are specified: each gives back what the other had.
-- Assumes nothing.
use Rattle.std.specs.Prelude.{ℕ, ◌≤◌, ◌≡◌, List, [], ◌∷◌, ◌++◌, length, take, drop, Ok, Err}
use Rattle.basis.specs.declared.Refusal.TheVariants.{Trailing}
use Rattle.groups.specs.Encode.{encode_all}
use Rattle.groups.specs.Decode.{Bytes}
use Rattle.jobfile.specs.Kind.{Kind, count, Stands}
use Rattle.jobfile.specs.Read.{job_as, job_in}
use Rattle.jobfile.specs.Write.{greatest_length, file_written, file_left}

-- as many numbers as a job of the kind has, none of them refused
pub record Accepted (kind : Kind) (ns : List ℕ) : Type 0 where
  pub long : length ns ≡ count kind
  pub stands : Stands kind ns

pub record RoundTrip : Type 0 where
  -- the file of an accepted job reads back as that job
  pub job_back : (k : Kind) (ns : List ℕ) → Accepted k ns → job_in (encode_all ns) ≡ Ok (job_as k ns)
  -- a file that reads as a job is the file of that job, which is accepted
  pub file_back : (file : List ℕ) (k : Kind) (ns : List ℕ) → Bytes file → length ns ≡ count k → job_in file ≡ Ok (job_as k ns) → (encode_all ns ≡ file) × Accepted k ns
  -- where writing answers a length, `read` of that many bytes of the buffer gives the job back
  pub written_reads : (k : Kind) (ns out : List ℕ) (n : ℕ) → length ns ≡ count k → file_written k ns out ≡ Ok n → job_in (take n (file_left k ns out)) ≡ Ok (job_as k ns)
  -- where `read` gives a job, writing it into a buffer with room puts those bytes back
  pub read_writes : (file : List ℕ) (k : Kind) (ns out : List ℕ) → Bytes file → length ns ≡ count k → job_in file ≡ Ok (job_as k ns) → length file ≤ length out
      → (file_written k ns out ≡ Ok (length file)) × (file_left k ns out ≡ file ++ drop (length file) out)
  -- different accepted jobs, of one kind or of both, have different files: two of one file are one job
  pub one_job : (k l : Kind) (ns ms : List ℕ) → Accepted k ns → Accepted l ms → encode_all ns ≡ encode_all ms → (k ≡ l) × (ns ≡ ms)
  -- bytes after a job's file are refused at its length
  pub extra_refused : (k : Kind) (ns : List ℕ) (b : ℕ) (bs : List ℕ) → Accepted k ns → job_in (encode_all ns ++ b ∷ bs) ≡ Err (Trailing (length (encode_all ns)))
  -- no file is the beginning of another, of its own kind or of the other
  pub no_beginning : (k l : Kind) (ns ms rest : List ℕ) → Accepted k ns → Accepted l ms → encode_all ms ≡ encode_all ns ++ rest → rest ≡ []
  -- no accepted job's file is longer than its kind's greatest length, and a buffer of that length has room for each
  pub at_most : (k : Kind) (ns : List ℕ) → Accepted k ns → length (encode_all ns) ≤ greatest_length k
  pub room : (k : Kind) (ns out : List ℕ) → Accepted k ns → greatest_length k ≤ length out → file_written k ns out ≡ Ok (length (encode_all ns))
