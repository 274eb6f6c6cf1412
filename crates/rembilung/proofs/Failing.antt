-- What is asked of a sheet and a book, proved: from what crate failing answers and from the rows of a sheet and of a book.
-- Assumes nothing.
use Prim.Native.Nat.{ℕ, ◌≤◌, ◌<◌}
use mathlib.Core.Path.{◌≡◌, ◌∙◌, refl, sym, ap}
use mathlib.Core.List.{List, [], ◌∷◌}
use mathlib.Core.Logic.{◌⊎◌, inl, inr, ⊎_elim}
use native.Mathlib.Omega.{arith}
use lib.Dec.{eqb, leb}
use lib.ListN.{length, get_or}
use borrow.Author.Tests.{leb-true, leb-false}
use Rattle.basis.proofs.Tests.{cases}
use Rattle.basis.proofs.Refusals.{unless_pass}
use Rattle.std.specs.Prelude.{Option, Some as Found, Result, Ok, unwrap_or}
use Rattle.basis.specs.Refusal.{first}
use Rattle.basis.specs.declared.Refusal.{Refusal}
use Rattle.basis.specs.declared.Refusal.TheVariants.{SheetLength}
use Rattle.basis.specs.Rows.{Some, Refused, Follows}
use Rattle.basis.proofs.Rows.{exactly, then_row, then_rest}
use Rattle.groups.specs.Decode.{Bytes}
use Rattle.groups.specs.Encode.{encode_all}
use Rattle.groups.proofs.Encode.{bytes_all}
use Rattle.job.specs.Job.{job_of}
use Rattle.jobfile.specs.Kind.{scaffold}
use Rattle.sheet.specs.Sheet as Sheet
use Rattle.section5.specs.Section5.{checks, verdicts}
use Rattle.book.specs.Book.{row}
use Rattle.book.specs.Read.{book_refusal}
use Rattle.book.proofs.Rows.{book_none, book_follows}
use Rattle.book.proofs.Held.{held_count, held_rows}
use Rattle.book.proofs.Narrow.{row_long}
use Rattle.failing.specs.declared.FirstFailing.{FirstFailing as Told}
use Rattle.failing.specs.Failing.{told, answer, numbers}
use Rattle.failing.specs.Rows.{Fails, Tells}
use Rattle.failing.proofs.Told.{search}
use Rattle.rembilung.specs.Call.{entries_of, sheet_refusal, refusal_in, call_buffer, told_count, told_left, first_told, first_code, first_buffer}
use Rattle.rembilung.specs.Table.{Refuses, SheetStands}
use Rattle.rembilung.specs.Shown.{verdict_shown}
use Rattle.rembilung.specs.Header.{report_most, Halves}
use Rattle.rembilung.specs.Failing.{FirstRow, Searches, SomeBook, Says, FirstFailing}
use Rattle.rembilung.proofs.Table.{sheet_follows, stands_reads}
use Rattle.rembilung.proofs.Header.{halves, header}
use Rattle.rembilung.proofs.Answered.{in_refused, sheet_first, refuses}
use Rattle.rembilung.proofs.Demands.{verdict_is}

module _ (sheet book : List ℕ) where
  abbrev of_book : Result Told Refusal
  of_book = first (book_refusal book) (Ok (told (entries_of sheet) book))

  told_is : first_told sheet book ≡ first (sheet_refusal sheet) of_book
  told_is = sheet_first sheet of_book

  from_sheet : SheetStands sheet → first_told sheet book ≡ of_book
  from_sheet s = told_is ∙ then_rest (sheet_follows sheet) of_book s

  done : (n : ℕ) (rows : List ℕ) → Searches sheet book n rows → first_told sheet book ≡ Ok (told (entries_of sheet) book)
  done n rows a = from_sheet a.sheet_stands ∙ rw (book_none book n rows a.book_stands) refl

  module _ (w : Bytes book) where
    row_refused : (n p : ℕ) → FirstRow sheet book n p → Refused (first_told sheet book) n p
    row_refused n p (FirstRow.of_sheet i q r) = rw told_is (then_row (sheet_follows sheet) of_book n p r)
    row_refused n p (FirstRow.of_book s i q r) = rw (from_sheet s) (then_row (book_follows book w) (Ok (told (entries_of sheet) book)) n p r)

    every : SomeBook sheet book ⊎ Some (FirstRow sheet book)
    every =
        ⊎_elim
        (λ s. ⊎_elim (λ b. inl (b.0, (b.1.0, record { sheet_stands = s; book_stands = b.1.1 }))) (λ r. inr (r.0, (r.1.0, FirstRow.of_book s _ _ r.1.1))) (book_follows book w).every)
        (λ r. inr (r.0, (r.1.0, FirstRow.of_sheet _ _ r.1.1))) (sheet_follows sheet).every

    follows : Follows (refusal_in (first_told sheet book)) (FirstRow sheet book) (SomeBook sheet book)
    follows = record { row = λ n p r. in_refused (first_told sheet book) n p (row_refused n p r); none = λ a. rw (done a.0 a.1.0 a.1.1) refl; every = every }

    refused : (before : List ℕ) (n p : ℕ) → FirstRow sheet book n p → Refuses n p (first_code sheet book) before (first_buffer sheet book before)
    unfolding first_code first_buffer
    refused before n p r = refuses (told_count 2 (first_told sheet book)) before (told_left numbers (first_told sheet book) before) (λ x e. rw e (refl, refl)) n p (row_refused n p r)

  returns : (n : ℕ) (rows : List ℕ) → Searches sheet book n rows → first_code sheet book ≡ 2
  unfolding first_code
  returns n rows a = rw (done n rows a) refl

  leaves : (before : List ℕ) (n : ℕ) (rows : List ℕ) → Searches sheet book n rows → first_buffer sheet book before ≡ numbers (told (entries_of sheet) book)
  unfolding first_buffer
  leaves before n rows a = rw (done n rows a) refl

halved : (sheet book : List ℕ) → Bytes book → Halves (first_code sheet book) (FirstRow sheet book) (SomeBook sheet book)
halved sheet book w =
    halves (follows sheet book w) (first_code sheet book) (λ n p r. (refused sheet book w [] n p r).code) (λ a. omega (arith, returns sheet book a.0 a.1.0 a.1.1))

-- ---- What the numbers say

says_tells : (sheet rows : List ℕ) (n : ℕ) (place : Option ℕ) (judged : ℕ) → Tells (entries_of sheet) rows n place judged → Says sheet rows n (unwrap_or place 4294967295 ∷ judged ∷ [])
says_tells sheet rows n place judged (Tells.first r h f) = Says.first r h f
says_tells sheet rows n place judged (Tells.none f) = Says.none f

-- a row that fails is not before the first
place_first : (sheet rows : List ℕ) (n : ℕ) (place : Option ℕ) (judged r : ℕ) → Tells (entries_of sheet) rows n place judged → r < n → Fails (entries_of sheet) rows r
    → (first : ℕ) × ((place ≡ Found first) × (first ≤ r))
place_first sheet rows n place judged r (Tells.first k h f) l b = (k, (refl, cases (leb k r) (leb-true k r) (λ t. absurd (f.before r (leb-false k r t) b))))
place_first sheet rows n place judged r (Tells.none f) l b = absurd (f r l b)

answer_is : (sheet book : List ℕ) (n : ℕ) (rows : List ℕ) → Searches sheet book n rows → answer (entries_of sheet) book ≡ Ok (told (entries_of sheet) book)
answer_is sheet book n rows a =
    let s = (unless_pass (eqb (length sheet) 502) (SheetLength (length sheet)) (Sheet.examination (entries_of sheet)) tt ((sheet_follows sheet).none a.sheet_stands)).1 in
    rw (s, book_none book n rows a.book_stands) refl

module _ (sheet book : List ℕ) (n : ℕ) (rows : List ℕ) (a : Searches sheet book n rows) where
  tells : Tells (entries_of sheet) rows n ((told (entries_of sheet) book).place) ((told (entries_of sheet) book).judged)
  tells = rw (held_count book n rows a.book_stands.holds, held_rows book n rows a.book_stands.holds) at (search.tells (entries_of sheet) book (told (entries_of sheet) book) (answer_is sheet book n rows a))

  says : (before : List ℕ) → Says sheet rows n (first_buffer sheet book before)
  unfolding numbers
  says before = rw (leaves sheet book before n rows a) (says_tells sheet rows n _ _ tells)

  shown : (r : ℕ) → r < n → (out : List ℕ) → report_most scaffold ≤ length out → (i : ℕ) → i < checks
      → verdict_shown (call_buffer sheet (encode_all (row rows r)) out) i ≡ get_or (verdicts (job_of (row rows r)) (entries_of sheet)) i 0
  shown r h out l i k =
      let ns = row rows r in
      let b = a.book_stands in
      let reads = stands_reads scaffold ns (row_long n rows r (omega (arith, b.holds.long)) h) (b.stand r h) in
      let answers = header.report_room scaffold sheet (encode_all ns) out ns (record { sheet_stands = a.sheet_stands; reads = reads }) l in
      verdict_is sheet (encode_all ns) out (bytes_all ns reads.holds.narrow) ns answers i k

  behind : (other before : List ℕ) (m : ℕ) (others : List ℕ) → Searches sheet other m others → (r : ℕ) → r < n → r < m → Fails (entries_of sheet) rows r
      → ((k : ℕ) → k ≤ r → row others k ≡ row rows k) → first_buffer sheet other before ≡ first_buffer sheet book before
  behind other before m others b r h l f same =
      let p = place_first sheet rows n _ _ r tells h f in
      let c = held_count other m others b.book_stands.holds in
      let e = search.behind (entries_of sheet) book other (told (entries_of sheet) book) (answer_is sheet book n rows a) p.0 p.1.0 (book_none other m others b.book_stands) (omega (arith, c, p.1.1))
      (λ k q. rw (held_rows other m others b.book_stands.holds, held_rows book n rows a.book_stands.holds) (same k (omega (arith, p.1.1)))) in
      leaves sheet other before m others b ∙ ap numbers (cc (e, answer_is sheet other m others b)) ∙ sym (leaves sheet book before n rows a)

pub first_failing : FirstFailing
first_failing =
    record {
      refused = λ sheet book before w. refused sheet book w before;
      answered = λ sheet book before n rows a. (returns sheet book n rows a, says sheet book n rows a before);
      exactly = λ sheet book w. exactly (follows sheet book w);
      shown = shown;
      behind = λ sheet book other before n m rows others a b. behind sheet book n rows a other before m others b;
      halves = halved;
    }
