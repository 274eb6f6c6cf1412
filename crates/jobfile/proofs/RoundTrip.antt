-- The promises of specs/RoundTrip.antt, proved.
-- Assumes nothing.
use Prim.Native.Nat.{ℕ, ◌≤◌}
use mathlib.Core.Path.{◌≡◌, ◌∙◌, refl, sym, ap}
use mathlib.Core.List.{List, [], ◌∷◌, ◌++◌, append-nil}
use native.Mathlib.Nat.{zero-add, le_trans}
use lib.ListN.{length, take, drop}
use lib.Seq.{take-append_seam}
use Rattle.std.specs.Prelude.{Result, Ok, Err}
use Rattle.basis.specs.Refusal.{Examined, first}
use Rattle.basis.specs.declared.Refusal.{Refusal}
use Rattle.basis.specs.declared.Refusal.TheVariants.{Trailing}
use Rattle.basis.proofs.Refusals.{first_nothing}
use Rattle.basis.proofs.Rows.{then_rest}
use Rattle.groups.specs.Encode.{encode_all}
use Rattle.groups.specs.Decode.{Bytes}
use Rattle.groups.specs.Rows.{Narrow}
use Rattle.groups.specs.Numbers.{extra, values}
use Rattle.groups.proofs.Files.{damage_back, values_back, all_read}
use Rattle.jobfile.specs.Kind.{Kind, count, examination}
use Rattle.jobfile.specs.Read.{job_as, job_in}
use Rattle.jobfile.specs.Write.{write_refusal, file_written, file_left}
use Rattle.jobfile.specs.RoundTrip.{Accepted, RoundTrip}
use Rattle.jobfile.specs.declared.FileJob.{FileJob}
use Rattle.jobfile.proofs.BothKinds.{told, stands_kind}
use Rattle.jobfile.proofs.Sizes.{file_short, narrow}
use Rattle.basis.proofs.Refusals.{first_answers}
use Rattle.jobfile.proofs.Reading.{same_job, read_job, job_stands}
use Rattle.jobfile.proofs.Writing.{write_fits, write_nothing}

module _ (k : Kind) (ns : List ℕ) (a : Accepted k ns) (rest : List ℕ) where
  file_narrow : Narrow ns
  file_narrow = narrow k ns a.long a.stands

  file_values : values (count k) (encode_all ns ++ rest) ≡ ns
  file_values = rw a.long at (values_back ns rest file_narrow)

  -- of a job's file and bytes after it, only those bytes are refused
  file_read : job_in (encode_all ns ++ rest) ≡ first (extra (length (encode_all ns)) rest) (Ok (job_as k ns))
  unfolding job_in
  file_read =
      let d = rw (a.long, zero-add) at (damage_back ns 0 rest file_narrow) in
      let m = stands_kind k ns rest a.long a.stands file_narrow in
      rw (m, file_values, d) (through (extra (length (encode_all ns)) rest))
    where
      through : (e : Examined) → first (first e (examination k ns)) (Ok (job_as k ns)) ≡ first e (Ok (job_as k ns))
      through (Ok none) = then_rest (told k ns) (Ok (job_as k ns)) a.stands
      through (Err r) = refl

job_back : (k : Kind) (ns : List ℕ) → Accepted k ns → job_in (encode_all ns) ≡ Ok (job_as k ns)
unfolding extra
job_back k ns a = rw append-nil at (file_read k ns a [])

extra_refused : (k : Kind) (ns : List ℕ) (b : ℕ) (bs : List ℕ) → Accepted k ns → job_in (encode_all ns ++ b ∷ bs) ≡ Err (Trailing (length (encode_all ns)))
unfolding extra
extra_refused k ns b bs a = file_read k ns a (b ∷ bs)

file_back : (file : List ℕ) (k : Kind) (ns : List ℕ) → Bytes file → length ns ≡ count k → job_in file ≡ Ok (job_as k ns) → (encode_all ns ≡ file) × Accepted k ns
file_back file k ns w l e =
    let a = (read_job file k ns l e).1 in
    (rw (← a.1) (all_read (count k) 0 file w (first_nothing _ _ a.0).0), record { long = l; stands = job_stands file k ns l e })

written_reads : (k : Kind) (ns out : List ℕ) (n : ℕ) → length ns ≡ count k → file_written k ns out ≡ Ok n → job_in (take n (file_left k ns out)) ≡ Ok (job_as k ns)
written_reads k ns out n l e =
    let a = first_answers (write_refusal k ns out) (Ok (length (encode_all ns))) e in
    let m : length (encode_all ns) ≡ n = cc (a.1) in
    rw (a.0, ← m, take-append_seam) (job_back k ns (record { long = l; stands = (write_fits k ns out a.0).0 }))

written_whole : (k : Kind) (ns out : List ℕ) → Accepted k ns → length (encode_all ns) ≤ length out
    → (Ok (length (encode_all ns)) ≡ file_written k ns out) × (encode_all ns ++ drop (length (encode_all ns)) out ≡ file_left k ns out)
written_whole k ns out a l = let w = write_nothing k ns out a.stands l in (rw w refl, rw w refl)

read_writes : (file : List ℕ) (k : Kind) (ns out : List ℕ) → Bytes file → length ns ≡ count k → job_in file ≡ Ok (job_as k ns) → length file ≤ length out
    → (file_written k ns out ≡ Ok (length file)) × (file_left k ns out ≡ file ++ drop (length file) out)
read_writes file k ns out w n e l =
    let b = file_back file k ns w n e in
    let d = written_whole k ns out b.1 (rw b.0 l) in
    (sym d.0 ∙ rw b.0 refl, sym d.1 ∙ rw b.0 refl)

one_job : (k l : Kind) (ns ms : List ℕ) → Accepted k ns → Accepted l ms → encode_all ns ≡ encode_all ms → (k ≡ l) × (ns ≡ ms)
one_job k l ns ms a b e = let f : ◌≡◌ {A = Result FileJob Refusal} (Ok (job_as k ns)) (Ok (job_as l ms)) = sym (job_back k ns a) ∙ ap job_in e ∙ job_back l ms b in same_job k l ns ms a.long b.long (cc)

no_beginning : (k l : Kind) (ns ms rest : List ℕ) → Accepted k ns → Accepted l ms → encode_all ms ≡ encode_all ns ++ rest → rest ≡ []
no_beginning k l ns ms [] a b e = refl
no_beginning k l ns ms (x ∷ xs) a b e = let f = sym (extra_refused k ns x xs a) ∙ ap job_in (sym e) ∙ job_back l ms b in absurd (cc)

pub round_trip : RoundTrip
round_trip =
    record {
      job_back = job_back;
      file_back = file_back;
      written_reads = written_reads;
      read_writes = read_writes;
      one_job = one_job;
      extra_refused = extra_refused;
      no_beginning = no_beginning;
      at_most = λ k ns a. file_short k ns a.long a.stands;
      room = λ k ns out a l. sym (written_whole k ns out a (le_trans (file_short k ns a.long a.stands) l)).0;
    }
