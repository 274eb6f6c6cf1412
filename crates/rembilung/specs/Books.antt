-- What document 02, request 3, asks of books, about what the two exported calls return and leave; the facts are those of book/specs/Rows.antt.
-- Assumes nothing.
use Rattle.std.specs.Prelude.{ℕ, ◌*◌, ◌/◌, ◌≤◌, ◌≡◌, List, [], ◌++◌, length, take, drop}
use Rattle.basis.specs.Rows.{Exactly}
use Rattle.groups.specs.Decode.{Bytes}
use Rattle.book.specs.Book.{row_count, in_full}
use Rattle.book.specs.Write.{whole_book}
use Rattle.book.specs.Rows.{ReadRow, Reads, WriteRow, Writes}
use Rattle.rembilung.specs.Call.{write_book_code, write_book_buffer, read_book_code, read_book_buffer}
use Rattle.rembilung.specs.Table.{Refuses}
use Rattle.rembilung.specs.Header.{Halves}

-- the lengths that the header names, REMBILUNG_BOOK_MOST in bytes and REMBILUNG_BOOK_ROWS_MOST in rows
abbrev pub book_most : ℕ
book_most = 8402

abbrev pub book_rows_most : ℕ
book_rows_most = 200

-- a book that is read, with the rows that it holds
abbrev pub SomeRows : List ℕ → List ℕ → Type 0
SomeRows book out = (n : ℕ) × ((rows : List ℕ) × Reads book out n rows)

pub record Books : Type 0 where
  -- writing: where a row of the table applies, its refusal and every byte as it was; where none does, the book; and of every input it is exactly one of these
  pub write_refused : (rows out : List ℕ) (n p : ℕ) → WriteRow rows out n p → Refuses n p (write_book_code rows out) out (write_book_buffer rows out)
  pub write_answered : (rows out : List ℕ) → Writes rows out → (write_book_code rows out ≡ length (whole_book rows)) × (write_book_buffer rows out ≡ whole_book rows ++ drop (length (whole_book rows)) out)
  pub write_exactly : (rows out : List ℕ) → Exactly (WriteRow rows out) (Writes rows out)
  -- reading, likewise: its refusal and every number as it was, or how many rows there are and those rows
  pub read_refused : (book out : List ℕ) → Bytes book → (n p : ℕ) → ReadRow book out n p → Refuses n p (read_book_code book out) out (read_book_buffer book out)
  pub read_answered : (book out : List ℕ) → Bytes book → (n : ℕ) (rows : List ℕ) → Reads book out n rows → (read_book_code book out ≡ n) × (read_book_buffer book out ≡ rows ++ drop (25 * n) out)
  pub read_exactly : (book out : List ℕ) → Bytes book → Exactly (ReadRow book out) (SomeRows book out)
  -- rows of which a book was written read back
  pub rows_back : (rows out back : List ℕ) → write_book_code rows out / 4294967296 ≡ 0 → row_count rows ≤ row_count back →
      (let book = take (write_book_code rows out) (write_book_buffer rows out) in
      (read_book_code book back ≡ row_count rows) × (read_book_buffer book back ≡ take (25 * row_count rows) rows ++ drop (25 * row_count rows) back))
  -- a book that was read writes back, from the rows read; but no bytes at all are read as no rows, which are written as the count 0
  pub book_back : (book out back : List ℕ) → Bytes book → read_book_code book out / 4294967296 ≡ 0 → length (in_full book) ≤ length back →
      (let rows = take (25 * read_book_code book out) (read_book_buffer book out) in
      (write_book_code rows back ≡ length (in_full book)) × (write_book_buffer rows back ≡ in_full book ++ drop (length (in_full book)) back))
  pub no_bytes : (out : List ℕ) → (read_book_code [] out ≡ 0) × (read_book_buffer [] out ≡ out)
  -- different rows have different books: where the same book was written, the rows are the same
  pub one_list : (rows others out back : List ℕ) → write_book_code rows out / 4294967296 ≡ 0 → write_book_code others back / 4294967296 ≡ 0
      → take (write_book_code rows out) (write_book_buffer rows out) ≡ take (write_book_code others back) (write_book_buffer others back)
      → take (25 * row_count rows) rows ≡ take (25 * row_count others) others
  -- with buffers of the lengths that the header names refusal 8 never comes, and there are rows whose book has the greatest
  pub write_never_8 : (rows out : List ℕ) → book_most ≤ length out → write_book_code rows out / 4294967296 ≡ 8 → ⊥
  pub read_never_8 : (book out : List ℕ) → Bytes book → book_rows_most ≤ row_count out → read_book_code book out / 4294967296 ≡ 8 → ⊥
  pub most_reached : (rows : List ℕ) × ((out : List ℕ) → book_most ≤ length out → write_book_code rows out ≡ book_most)
  -- the two halves of what is returned
  pub write_halves : (rows out : List ℕ) → Halves (write_book_code rows out) (WriteRow rows out) (Writes rows out)
  pub read_halves : (book out : List ℕ) → Bytes book → Halves (read_book_code book out) (ReadRow book out) (SomeRows book out)
