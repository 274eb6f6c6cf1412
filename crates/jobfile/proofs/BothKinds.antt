-- Laws of the two kinds: what is refused of their numbers, and which of them a file is read as.
-- Assumes nothing.
use mathlib.Core.Path.{◌≡◌, ◌∙◌, sym}
use mathlib.Core.List.{List, [], ◌∷◌, ◌++◌}
use Prim.Native.Nat.{ℕ}
use native.Mathlib.Omega.{arith}
use lib.Dec.{eqb, lit<}
use lib.ListN.{length, get_or, drop}
use borrow.Author.Tests.{eq-eqb, ne_eqb, eqb-true, eqb-false}
use Rattle.basis.specs.Rows.{Follows}
use Rattle.basis.proofs.Tests.{cases, within_le}
use Rattle.job.specs.Job.{job_of}
use Rattle.job.specs.Ranges.{ranges}
use Rattle.job.specs.Rows.{Inside}
use Rattle.job.proofs.Rows as Job
use Rattle.support.specs.Support.{support_of}
use Rattle.support.proofs.Bounds.{bounds}
use Rattle.support.proofs.Rows as Support
use Rattle.groups.specs.Encode.{groups, encode, encode_all}
use Rattle.groups.specs.Decode.{Bytes, decode}
use Rattle.groups.specs.Numbers.{value_of}
use Rattle.groups.specs.Rows.{Narrow, Starts}
use Rattle.groups.proofs.Decode.{decoded}
use Rattle.groups.proofs.Numbers.{number_front}
use Rattle.groups.proofs.Places.{first_number}
use Rattle.jobfile.specs.Kind.{Kind, scaffold, support, count, examination, Row, Stands, marks_support, kind_of, Marks}

pub told : (k : Kind) (ns : List ℕ) → Follows (examination k ns) (Row k ns) (Stands k ns)
told scaffold ns = (Job.told).told (job_of ns)
told support ns = (Support.told).told (support_of ns)

module _ (file : List ℕ) where
  marked : value_of (decode file) ≡ 3 → kind_of file ≡ support
  unfolding kind_of marks_support
  marked e = rw (eq-eqb (value_of (decode file)) 3 e)

  unmarked : (value_of (decode file) ≡ 3 → ⊥) → kind_of file ≡ scaffold
  unfolding kind_of marks_support
  unmarked h = rw (ne_eqb (value_of (decode file)) 3 h)

  -- the number at the front is 3 just where it stands there
  starts_3 : (rest : List ℕ) → Starts file (3 ∷ []) rest → value_of (decode file) ≡ 3
  starts_3 rest s = rw s.is (first_number (3 ∷ []) rest s.narrow (lit< tt))

  three_starts : Bytes file → value_of (decode file) ≡ 3 → (rest : List ℕ) × Starts file (3 ∷ []) rest
  unfolding value_of encode_all encode groups
  three_starts w e =
      decoded (decode file)
      (λ v k f.
      let v3 : v ≡ 3 = rw f at e in
      (drop k file, record { is = rw v3 at (number_front v k file w f); narrow = (lit< tt, tt) }))
      (λ f. let z = rw f at e in absurd (omega arith))

  module _ (w : Bytes file) where
    pub marks_kind : (k : Kind) → Marks k file → kind_of file ≡ k
    marks_kind scaffold m = unmarked (λ e. let s = three_starts w e in m s.0 s.1)
    marks_kind support m = marked (starts_3 m.0 m.1)

    pub kind_marks : Marks (kind_of file) file
    kind_marks =
        cases (eqb (value_of (decode file)) 3)
        (λ t. let e = eqb-true (value_of (decode file)) 3 t in rw (marked e) (three_starts w e))
        (λ t. let h = eqb-false (value_of (decode file)) 3 t in rw (unmarked h) (λ rest s. h (starts_3 rest s)))

-- a job that stands is marked as what it is
pub stands_kind : (k : Kind) (ns rest : List ℕ) → length ns ≡ count k → Stands k ns → Narrow ns → kind_of (encode_all ns ++ rest) ≡ k
unfolding job_of support_of Inside ranges
stands_kind scaffold ns rest l s w =
    unmarked (encode_all ns ++ rest)
    (λ e. let f = within_le 1 2 (get_or ns 0 0) (s.agrees.inside 1) in absurd (omega (arith, f.1, sym (first_number ns rest w (omega arith)) ∙ e)))
stands_kind support ns rest l s w =
    marked (encode_all ns ++ rest) (first_number ns rest w (omega arith) ∙ (bounds (support_of ns) s).kind)
