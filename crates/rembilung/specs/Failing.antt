-- What document 02, request 9, asks of a sheet and a book, about what the exported call returns and leaves; the facts are those of the papers.
-- Assumes nothing.
use Rattle.std.specs.Prelude.{ℕ, ◌+◌, ◌≤◌, ◌<◌, ◌≡◌, List, [], ◌∷◌, get_or, length}
use Rattle.basis.specs.Rows.{First, Exactly}
use Rattle.groups.specs.Decode.{Bytes}
use Rattle.groups.specs.Encode.{encode_all}
use Rattle.job.specs.Job.{job_of}
use Rattle.jobfile.specs.Kind.{scaffold}
use Rattle.section5.specs.Section5.{checks, verdicts}
use Rattle.book.specs.Book.{row}
use Rattle.book.specs.Rows as Book
use Rattle.failing.specs.Rows.{Fails}
use Rattle.rembilung.specs.Call.{entries_of, call_buffer, first_code, first_buffer}
use Rattle.rembilung.specs.Table.{Refuses, SheetStands, SheetRow}
use Rattle.rembilung.specs.Shown.{verdict_shown}
use Rattle.rembilung.specs.Header.{report_most, Halves}

-- ---- 1, 2, then 9 of the count, 10, 9, 11 of the whole book, whichever of its rows fail

pub data FirstRow (sheet book : List ℕ) : ℕ → ℕ → Type 0 where
  -- 1, 2
  of_sheet : (n p : ℕ) → SheetRow sheet n p → FirstRow sheet book n p
  -- 9, 10, 11 (book/specs/Rows.antt)
  of_book : SheetStands sheet → (n p : ℕ) → Book.Row book n p → FirstRow sheet book n p

-- none applies: the sheet stands, and the book, with n rows
pub record Searches (sheet book : List ℕ) (n : ℕ) (rows : List ℕ) : Type 0 where
  pub sheet_stands : SheetStands sheet
  pub book_stands : Book.Stands book n rows

-- a sheet and the book of some rows, of which that holds
abbrev pub SomeBook : List ℕ → List ℕ → Type 0
SomeBook sheet book = (n : ℕ) × ((rows : List ℕ) × Searches sheet book n rows)

-- what the two numbers say of n rows
pub data Says (sheet rows : List ℕ) (n : ℕ) : List ℕ → Type 0 where
  -- row r has a 2 among its twelve verdicts, and none before it has: r + 1 rows are judged
  first : (r : ℕ) → r < n → First (Fails (entries_of sheet) rows) r → Says sheet rows n (r ∷ (r + 1) ∷ [])
  -- none has: all n are judged
  none : ((r : ℕ) → r < n → Fails (entries_of sheet) rows r → ⊥) → Says sheet rows n (4294967295 ∷ n ∷ [])

pub record FirstFailing : Type 0 where
  -- where a row of the table applies, its refusal and both numbers as they were; where none does, 2 and what the numbers say; and of every input it is exactly one of these
  pub refused : (sheet book before : List ℕ) → Bytes book → (n p : ℕ) → FirstRow sheet book n p → Refuses n p (first_code sheet book) before (first_buffer sheet book before)
  pub answered : (sheet book before : List ℕ) (n : ℕ) (rows : List ℕ) → Searches sheet book n rows → (first_code sheet book ≡ 2) × Says sheet rows n (first_buffer sheet book before)
  pub exactly : (sheet book : List ℕ) → Bytes book → Exactly (FirstRow sheet book) (SomeBook sheet book)
  -- the verdicts of a row are those that the whole call shows in the report on its job file
  pub shown : (sheet book : List ℕ) (n : ℕ) (rows : List ℕ) → Searches sheet book n rows → (r : ℕ) → r < n → (out : List ℕ) → report_most scaffold ≤ length out → (i : ℕ) → i < checks
      → verdict_shown (call_buffer sheet (encode_all (row rows r)) out) i ≡ get_or (verdicts (job_of (row rows r)) (entries_of sheet)) i 0
  -- once a row fails, those behind it do not matter: every book that stands and has the same rows up to it is answered the same
  pub behind : (sheet book other before : List ℕ) (n m : ℕ) (rows others : List ℕ) → Searches sheet book n rows → Searches sheet other m others
      → (r : ℕ) → r < n → r < m → Fails (entries_of sheet) rows r → ((k : ℕ) → k ≤ r → row others k ≡ row rows k) → first_buffer sheet other before ≡ first_buffer sheet book before
  -- the two halves of what is returned
  pub halves : (sheet book : List ℕ) → Bytes book → Halves (first_code sheet book) (FirstRow sheet book) (SomeBook sheet book)
