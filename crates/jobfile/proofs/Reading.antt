-- Laws of reading: the job and the refusal of a file, from its numbers.
-- Assumes nothing.
use Rattle.std.specs.Prelude.{Some, None, Result, Ok, Err, MatchResult}
use Prim.Native.Nat.{ℕ}
use mathlib.Core.Path.{◌≡◌, ◌∙◌, refl, sym, ap}
use mathlib.Core.Bool.{true, false}
use mathlib.Core.List.{List}
use lib.Dec.{eqb}
use lib.ListN.{length}
use Rattle.basis.specs.Refusal.{nothing, Examined, first}
use Rattle.basis.specs.declared.Refusal.{Refusal}
use Rattle.basis.proofs.Refusals.{first_nothing, first_answers}
use Rattle.basis.proofs.Rows.{unrefused}
use Rattle.job.specs.declared.Job.{Job}
use Rattle.job.specs.Job as Job
use Rattle.job.specs.Rows.{Stands as JobStands}
use Rattle.job.proofs.Numbers.{numbers_job}
use Rattle.support.specs.declared.Support as Declared
use Rattle.support.specs.Support as Support
use Rattle.support.specs.Rows.{Stands as SupportStands}
use Rattle.support.proofs.Numbers.{numbers_support}
use Rattle.groups.specs.Decode.{decode}
use Rattle.groups.specs.Numbers.{damage, values, value_of, numbers_in}
use Rattle.groups.proofs.Files.{values_long}
use Rattle.jobfile.specs.Kind.{Kind, scaffold, support, count, examination, Stands, marks_support, kind_of}
use Rattle.jobfile.specs.Read.{refusal_as, job_as, read_as, job_in, ReadAsMarked}
use Rattle.jobfile.specs.declared.FileJob.{FileJob}
use Rattle.jobfile.specs.declared.FileJob.TheVariants.{Scaffold, Support}
use Rattle.jobfile.proofs.BothKinds.{told, marks_kind}

module _ (file : List ℕ) where
  -- whether its first number marks a support, from what is read of it
  pub marks_number : {v k : ℕ} → decode file ≡ Some (v, k) → eqb v 3 ≡ marks_support file
  unfolding marks_support value_of
  marks_number e = rw e

  pub marks_none : decode file ≡ None → false ≡ marks_support file
  unfolding marks_support value_of
  marks_none e = rw e

  pub read_marked : marks_support file ≡ true → read_as support file ≡ job_in file
  unfolding job_in kind_of
  read_marked e = rw e

  pub read_unmarked : marks_support file ≡ false → read_as scaffold file ≡ job_in file
  unfolding job_in kind_of
  read_unmarked e = rw e

-- what is read of a file's bytes and examined, and then put into a case of its job
module _ {A : Type 0} (of : List ℕ → A) (examined : A → Examined) (case : A → FileJob) {answer : Result FileJob Refusal} where
  cased : (e : Examined) (a : A) → MatchResult (first e (Ok a)) (λ x. answer ≡ Ok (case x)) (λ r. answer ≡ Err r) → answer ≡ first e (Ok (case a))
  cased (Ok none) a m = m
  cased (Err r) a m = m

  pub read_cased : (n : ℕ) (file : List ℕ) (found : Result A Refusal)
      → MatchResult (numbers_in n file) (λ ns. (raw : A) × (raw ≡ of ns) × (found ≡ first (examined raw) (Ok raw))) (λ r. found ≡ Err r)
      → MatchResult found (λ x. answer ≡ Ok (case x)) (λ r. answer ≡ Err r)
      → answer ≡ first (first (damage n 0 file) (examined (of (values n file)))) (Ok (case (of (values n file))))
  unfolding numbers_in
  read_cased n file found f m = go (damage n 0 file) f
    where
      go : (d : Examined)
          → MatchResult (first d (Ok (values n file))) (λ ns. (raw : A) × (raw ≡ of ns) × (found ≡ first (examined raw) (Ok raw))) (λ r. found ≡ Err r)
          → answer ≡ first (first d (examined (of (values n file)))) (Ok (case (of (values n file))))
      go (Ok none) (raw, e, f) = cased (examined (of (values n file))) (of (values n file)) (rw (f, e) at m)
      go (Err r) f = rw f at m

-- a file is read as what its first number marks
pub read_as_marked : ReadAsMarked
unfolding job_in
read_as_marked = record { read = λ k file w m. ap (λ (l : Kind). read_as l file) (marks_kind file w k m) }

-- no job is one of the other kind
pub same_job : (k l : Kind) (ns ms : List ℕ) → length ns ≡ count k → length ms ≡ count l → job_as k ns ≡ job_as l ms → (k ≡ l) × (ns ≡ ms)
same_job scaffold scaffold ns ms p q e =
    let f : Job.job_of ns ≡ Job.job_of ms = cc in
    (refl, sym (numbers_job ns p) ∙ ap Job.numbers f ∙ numbers_job ms q)
same_job scaffold support ns ms p q e = absurd (cc)
same_job support scaffold ns ms p q e = absurd (cc)
same_job support support ns ms p q e =
    let f : Support.support_of ns ≡ Support.support_of ms = cc in
    (refl, sym (numbers_support ns p) ∙ ap Support.numbers f ∙ numbers_support ms q)

-- a file that reads as a job is of its kind, has its numbers, and nothing of it is refused
pub read_job : (file : List ℕ) (k : Kind) (ns : List ℕ) → length ns ≡ count k → job_in file ≡ Ok (job_as k ns)
    → (kind_of file ≡ k) × ((refusal_as k file ≡ nothing) × (values (count k) file ≡ ns))
unfolding job_in
read_job file k ns l e =
    let own = kind_of file in
    let f = first_answers (refusal_as own file) (Ok (job_as own (values (count own) file))) e in
    let a = same_job own k (values (count own) file) ns (values_long (count own) file) l (cc (f.1)) in
    (a.0, (rw a.0 at f.0, rw a.0 at a.1))

-- and that job stands
pub job_stands : (file : List ℕ) (k : Kind) (ns : List ℕ) → length ns ≡ count k → job_in file ≡ Ok (job_as k ns) → Stands k ns
job_stands file k ns l e = let a = (read_job file k ns l e).1 in unrefused (told k ns) (rw a.1 at (first_nothing (damage (count k) 0 file) (examination k (values (count k) file)) a.0).1)

pub scaffold_stands : (file : List ℕ) (j : Job) → job_in file ≡ Ok (Scaffold j) → JobStands j
unfolding Job.job_of Job.numbers
scaffold_stands file j e = job_stands file scaffold (Job.numbers j) refl e

pub support_stands : (file : List ℕ) (s : Declared.Support) → job_in file ≡ Ok (Support s) → SupportStands s
unfolding Support.support_of Support.numbers
support_stands file s e = job_stands file support (Support.numbers s) refl e
