-- What is certain of books, of the definitions by which `read` and `write` are specified: each gives back what the other had.
-- Assumes nothing.
use Rattle.std.specs.Prelude.{ℕ, ◌*◌, ◌≤◌, ◌≡◌, List, [], ◌++◌, length, take, drop, Ok}
use Rattle.groups.specs.Decode.{Bytes}
use Rattle.book.specs.Book.{rows_most, greatest_length, row_count, book_of, in_full}
use Rattle.book.specs.Read.{rows_read, rows_left}
use Rattle.book.specs.Write.{book_written, book_left}
use Rattle.book.specs.Rows.{AllStand}

-- n rows, 0 to 200, each of which obeys 01
pub record Accepted (n : ℕ) (rows : List ℕ) : Type 0 where
  pub few : n ≤ rows_most
  pub long : length rows ≡ 25 * n
  pub stand : AllStand n rows

pub record RoundTrip : Type 0 where
  -- no bytes at all read as no rows, whatever is lent
  pub no_bytes : (out : List ℕ) → (rows_read [] out ≡ Ok 0) × (rows_left [] out ≡ out)
  -- the book of accepted rows reads back as those rows
  pub rows_back : (n : ℕ) (rows out : List ℕ) → Accepted n rows → n ≤ row_count out
      → (rows_read (book_of n rows) out ≡ Ok n) × (rows_left (book_of n rows) out ≡ rows ++ drop (25 * n) out)
  -- a book that is read is the book of the rows read, which are accepted; but no bytes at all are read as no rows, whose book is the count 0
  pub book_back : (book out : List ℕ) (n : ℕ) → Bytes book → rows_read book out ≡ Ok n →
      (let rows = take (25 * n) (rows_left book out) in
      Accepted n rows × (book_of n rows ≡ in_full book) × (rows_left book out ≡ rows ++ drop (25 * n) out))
  -- where writing answers a length, reading that many bytes into rows with room gives the whole rows back
  pub written_reads : (rows out back : List ℕ) (n : ℕ) → book_written rows out ≡ Ok n → row_count rows ≤ row_count back →
      (let book = take n (book_left rows out) in
      (rows_read book back ≡ Ok (row_count rows)) × (rows_left book back ≡ take (25 * row_count rows) rows ++ drop (25 * row_count rows) back))
  -- where reading answers n rows, writing them into a buffer with room puts those bytes back; of no bytes the count 0
  pub read_writes : (book out back : List ℕ) (n : ℕ) → Bytes book → rows_read book out ≡ Ok n → length (in_full book) ≤ length back →
      (let rows = take (25 * n) (rows_left book out) in
      (book_written rows back ≡ Ok (length (in_full book))) × (book_left rows back ≡ in_full book ++ drop (length (in_full book)) back))
  -- different lists of rows have different books
  pub one_list : (n m : ℕ) (rows others : List ℕ) → Accepted n rows → Accepted m others → book_of n rows ≡ book_of m others → (n ≡ m) × (rows ≡ others)
  -- no book is longer than the greatest length; there is one of it; and a buffer of that length has room for each
  pub at_most : (n : ℕ) (rows : List ℕ) → Accepted n rows → length (book_of n rows) ≤ greatest_length
  pub reached : (rows : List ℕ) × Accepted rows_most rows × (length (book_of rows_most rows) ≡ greatest_length)
  pub room : (rows out : List ℕ) → row_count rows ≤ rows_most → AllStand (row_count rows) rows → greatest_length ≤ length out → book_written rows out ≡ Ok (length (book_of (row_count rows) rows))
