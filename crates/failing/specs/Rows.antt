-- What is told of a book's rows, as facts: which row is the first with a failed check, or that none has one; and how many are judged.
-- Assumes nothing.
use Rattle.std.specs.Prelude.{ℕ, ◌+◌, ◌≤◌, ◌<◌, ◌≡◌, List, get_or, Option, None, Some, Ok}
use Rattle.basis.specs.Refusal.{nothing}
use Rattle.basis.specs.Rows.{First}
use Rattle.job.specs.Job.{job_of}
use Rattle.section5.specs.Section5.{checks, verdicts}
use Rattle.book.specs.Book.{row}
use Rattle.book.specs.Read.{count_in, rows_in, book_refusal}
use Rattle.failing.specs.declared.FirstFailing.{FirstFailing}
use Rattle.failing.specs.Failing.{answer}

-- row r has a failed check: of its twelve verdicts under a sheet one is 2
abbrev pub Fails : List ℕ → List ℕ → ℕ → Type 0
Fails sheet rows r = (i : ℕ) × ((i < checks) × (get_or (verdicts (job_of (row rows r)) sheet) i 0 ≡ 2))

-- what is told of n rows
pub data Tells (sheet rows : List ℕ) (n : ℕ) : Option ℕ → ℕ → Type 0 where
  -- row r fails, and none before it: it and those before it are judged
  first : (r : ℕ) → r < n → First (Fails sheet rows) r → Tells sheet rows n (Some r) (r + 1)
  -- none fails: all are judged
  none : ((r : ℕ) → r < n → Fails sheet rows r → ⊥) → Tells sheet rows n None n

pub record Search : Type 0 where
  -- the place and the number of rows judged that are answered are those of judging all rows
  pub tells : (sheet book : List ℕ) (t : FirstFailing) → answer sheet book ≡ Ok t → Tells sheet (rows_in book) (count_in book) t.place t.judged
  -- once a row fails, those behind it do not matter: the same is answered of each book that stands and has the same rows up to it
  pub behind : (sheet book other : List ℕ) (t : FirstFailing) → answer sheet book ≡ Ok t → (r : ℕ) → t.place ≡ Some r
      → book_refusal other ≡ nothing → r < count_in other → ((k : ℕ) → k ≤ r → row (rows_in other) k ≡ row (rows_in book) k) → answer sheet other ≡ Ok t
