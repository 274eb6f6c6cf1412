-- The promises of specs/Rows.antt, proved: what is told is that of judging all rows, and rows behind the first that fails do not matter.
-- Assumes nothing.
use Rattle.std.proofs.lemmas.List.{get_or_default}
use Rattle.std.proofs.lemmas.List.Folds.{Any-from_list_any, list_any_at}
use Rattle.std.specs.Prelude.{Option, None, Some, Ok, length}
use Prim.Native.Nat.{ℕ, ◌≤◌, ◌<◌}
use mathlib.Core.Path.{◌≡◌, ◌∙◌, refl, sym, ap}
use mathlib.Core.Bool.{true, false, true≢false}
use mathlib.Core.List.{List}
use native.Mathlib.Omega.{arith}
use lib.Dec.{eqb}
use borrow.Author.Tests.{eq-eqb, eqb-true}
use Rattle.basis.specs.Refusal.{nothing, first}
use Rattle.basis.proofs.Refusals.{first_answers}
use Rattle.job.specs.Job.{job_of}
use Rattle.sheet.specs.Sheet.{examination}
use Rattle.section5.specs.Section5.{checks, verdicts, judgement}
use Rattle.book.specs.Book.{row}
use Rattle.book.specs.Read.{count_in, rows_in, book_refusal}
use Rattle.failing.specs.declared.FirstFailing.{FirstFailing}
use Rattle.failing.specs.Failing.{failed, place_in, judged, told, answer}
use Rattle.failing.specs.Rows.{Fails, Tells, Search}
use Rattle.failing.proofs.Place.{judged_at, found, place_fails, none_fails}

-- a row fails just where one of its twelve verdicts is 2
module _ (sheet rows : List ℕ) (r : ℕ) where
  twelve : length (verdicts (job_of (row rows r)) sheet) ≡ checks
  unfolding verdicts
  twelve = refl

  fails_failed : Fails sheet rows r → failed (judgement (job_of (row rows r)) sheet) ≡ true
  unfolding judgement
  fails_failed f = list_any_at (λ v. eqb v 2) (verdicts (job_of (row rows r)) sheet) f.0 0 (omega (arith, f.1.0, twelve)) (eq-eqb _ 2 f.1.1)

  failed_fails : failed (judgement (job_of (row rows r)) sheet) ≡ true → Fails sheet rows r
  unfolding judgement
  failed_fails e =
      let a = Any-from_list_any (λ v. eqb v 2) (verdicts (job_of (row rows r)) sheet) e in
      (a.0, (omega (arith, a.2, twelve), get_or_default (verdicts (job_of (row rows r)) sheet) a.0 0 a.1 a.2 ∙ a.3 ∙ eqb-true a.1 2 a.4))

  unfailed : failed (judgement (job_of (row rows r)) sheet) ≡ false → Fails sheet rows r → ⊥
  unfailed e f = absurd (true≢false (sym (fails_failed f) ∙ e))

module _ (sheet book : List ℕ) where
  tells_at : (place : Option ℕ) → place_in sheet book ≡ place → Tells sheet (rows_in book) (count_in book) place (judged place (count_in book))
  tells_at (Some r) e =
      let p = place_fails sheet book r e in
      Tells.first r p.0 (record { here = failed_fails sheet (rows_in book) r p.1.0; before = λ k l. unfailed sheet (rows_in book) k (p.1.1 k l) })
  tells_at None e = Tells.none (λ r h. unfailed sheet (rows_in book) r (none_fails sheet book e r h))

-- what is told where nothing is refused
answered : (sheet book : List ℕ) (t : FirstFailing) → answer sheet book ≡ Ok t → (examination sheet ≡ nothing) × (told sheet book ≡ t)
answered sheet book t e =
    let a = first_answers (examination sheet) (first (book_refusal book) (Ok (told sheet book))) e in
    let b = first_answers (book_refusal book) (Ok (told sheet book)) a.1 in
    (a.0, cc (b.1))

tells : (sheet book : List ℕ) (t : FirstFailing) → answer sheet book ≡ Ok t → Tells sheet (rows_in book) (count_in book) t.place t.judged
unfolding told
tells sheet book t e = rw (sym (answered sheet book t e).1) (tells_at sheet book (place_in sheet book) refl)

-- another book with the same rows up to the first that fails
same_told : (sheet book other : List ℕ) (r : ℕ) → (told sheet book).place ≡ Some r → r < count_in other → ((k : ℕ) → k ≤ r → row (rows_in other) k ≡ row (rows_in book) k)
    → told sheet other ≡ told sheet book
unfolding told
same_told sheet book other r e h same =
    let p = place_fails sheet book r e in
    let at : (k : ℕ) → k ≤ r → failed (judged_at sheet other k) ≡ failed (judged_at sheet book k) = λ k l. ap (λ ns. failed (judgement (job_of ns) sheet)) (same k l) in
    let f = found sheet other r h (λ k l. at k (omega arith) ∙ p.1.1 k l) (at r (omega arith) ∙ p.1.0) in
    rw (f, e) refl

behind : (sheet book other : List ℕ) (t : FirstFailing) → answer sheet book ≡ Ok t → (r : ℕ) → t.place ≡ Some r
    → book_refusal other ≡ nothing → r < count_in other → ((k : ℕ) → k ≤ r → row (rows_in other) k ≡ row (rows_in book) k) → answer sheet other ≡ Ok t
behind sheet book other t e r f z h same =
    let a = answered sheet book t e in
    rw (a.0, z) (ap Ok (same_told sheet book other r (rw a.1 f) h same ∙ a.1))

pub search : Search
search = record { tells = tells; behind = behind }
