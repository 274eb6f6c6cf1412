-- Document 02, request 3, what is turned away, as facts of a book and the rows lent, and of rows and a buffer: which row of the table applies, each where those before it do not; or none.
-- Assumes nothing.
use Rattle.std.specs.Prelude.{ℕ, suc, ◌*◌, ◌≤◌, ◌<◌, ◌≡◌, List, [], ◌∷◌, length}
use Rattle.basis.specs.Rows.{Some, Follows}
use Rattle.groups.specs.Decode.{Bytes}
use Rattle.groups.specs.Rows.{Damaged, Narrow, Starts}
use Rattle.groups.specs.Rows as Groups
use Rattle.jobfile.specs.Kind.{scaffold}
use Rattle.jobfile.specs.Kind as Job
use Rattle.book.specs.Book.{rows_most, row_count, book_of, in_full, row}
use Rattle.book.specs.Read.{book_refusal, read_refusal}
use Rattle.book.specs.Write.{whole_book, write_refusal}

-- each of n rows obeys 01: neither 3 nor 4 nor 5 applies to it
abbrev pub AllStand : ℕ → List ℕ → Type 0
AllStand n rows = (r : ℕ) → r < n → Job.Stands scaffold (row rows r)

-- of n rows, r is the first in order to which 3, 4 or 5 applies
pub record FirstBad (n : ℕ) (rows : List ℕ) (r : ℕ) : Type 0 where
  pub within : r < n
  pub bad : Some (Job.Row scaffold (row rows r))
  pub before : AllStand r rows

-- the book of n rows, of any 25 numbers each; no bytes at all are the book of none
pub record Holds (book : List ℕ) (n : ℕ) (rows : List ℕ) : Type 0 where
  pub is : in_full book ≡ book_of n rows
  pub few : n ≤ rows_most
  pub long : length rows ≡ 25 * n
  pub narrow : Narrow rows

-- ---- A book by itself: 9 of the count, 10, 9, 11

pub data Row (book : List ℕ) : ℕ → ℕ → Type 0 where
  -- 9 at 0: there are bytes, and no count stands at their front
  no_count : Damaged (in_full book) → Row book 9 0
  -- 10 with the count, above 200, whatever follows
  count : (n : ℕ) (rest : List ℕ) → Starts (in_full book) (n ∷ []) rest → rows_most < n → Row book 10 n
  -- 9 with the offset of a damaged number's first byte, or of the first trailing byte (6 and 7 of a file of so many numbers, groups/specs/Rows.antt)
  damaged : (n : ℕ) (rest : List ℕ) → Starts (in_full book) (n ∷ []) rest → n ≤ rows_most → (m p : ℕ) → Groups.Row (suc (25 * n)) (in_full book) m p → Row book 9 p
  -- 11 with the row, first in order, that 3, 4 or 5 would refuse
  row_bad : (n : ℕ) (rows : List ℕ) → Holds book n rows → (r : ℕ) → FirstBad n rows r → Row book 11 r

-- none applies: it is the book of rows that stand
pub record Stands (book : List ℕ) (n : ℕ) (rows : List ℕ) : Type 0 where
  pub holds : Holds book n rows
  pub stand : AllStand n rows

-- ---- Reading: then 8 in rows

pub data ReadRow (book out : List ℕ) : ℕ → ℕ → Type 0 where
  -- 9, 10, 11
  of_book : (n p : ℕ) → Row book n p → ReadRow book out n p
  -- 8, rows needed: too few are lent
  short : (n : ℕ) (rows : List ℕ) → Stands book n rows → row_count out < n → ReadRow book out 8 n

-- none applies: the book stands, and there is room for its rows
pub record Reads (book out : List ℕ) (n : ℕ) (rows : List ℕ) : Type 0 where
  pub stands : Stands book n rows
  pub room : n ≤ row_count out

-- ---- Writing: 10, 11, 8 in bytes

pub data WriteRow (rows out : List ℕ) : ℕ → ℕ → Type 0 where
  -- 10 with the number of rows, above 200
  count : rows_most < row_count rows → WriteRow rows out 10 (row_count rows)
  -- 11 with the row, first in order, that 3, 4 or 5 would refuse
  row_bad : row_count rows ≤ rows_most → (r : ℕ) → FirstBad (row_count rows) rows r → WriteRow rows out 11 r
  -- 8, length needed: buffer too short
  short : row_count rows ≤ rows_most → AllStand (row_count rows) rows → length out < length (whole_book rows) → WriteRow rows out 8 (length (whole_book rows))

-- none applies: the rows stand, and the buffer has room for their book
pub record Writes (rows out : List ℕ) : Type 0 where
  pub few : row_count rows ≤ rows_most
  pub stand : AllStand (row_count rows) rows
  pub room : length (whole_book rows) ≤ length out

-- what is refused is what the table says
pub record Told : Type 0 where
  pub book : (book : List ℕ) → Bytes book → Follows (book_refusal book) (Row book) ((n : ℕ) × ((rows : List ℕ) × Stands book n rows))
  pub reading : (book out : List ℕ) → Bytes book → Follows (read_refusal book out) (ReadRow book out) ((n : ℕ) × ((rows : List ℕ) × Reads book out n rows))
  pub writing : (rows out : List ℕ) → Follows (write_refusal rows out) (WriteRow rows out) (Writes rows out)
