-- Marked cases of request 3: books byte by byte, the counts, where damage and bad rows are named, and what is left of what was lent.
-- Assumes nothing.
use Rattle.std.specs.Prelude.{ℕ, List, [], ◌∷◌, ◌++◌, set, replicate}
use Rattle.basis.specs.Marked.{Row, row as case}
use Rattle.basis.specs.Search.{first_fail}
use Rattle.basis.specs.Writing.{written_values}
use Rattle.job.specs.JobJ.{numbers_J}
use Rattle.jobfile.specs.Marked.{files}
use Rattle.book.specs.Columns.{series, joined, across, turned}
use Rattle.book.specs.Book.{row_count, columns, rows_of, book_of, in_full, row, good, good_at, first_bad}
use Rattle.book.specs.Read.{count_in, numbers_due, columns_in, rows_in, damage_in, book_refusal, read_refusal, rows_read, rows_left}
use Rattle.book.specs.Write.{whole_book, write_refusal, book_written, book_left}

-- a single row, unlike J in every number
unfoldable pub numbers_K : List ℕ
numbers_K =
    2 ∷ 2 ∷ 100 ∷ 60 ∷ 61 ∷ 3 ∷ 1 ∷ 1 ∷ 2 ∷ 1 ∷ 0 ∷ 0 ∷ 5 ∷ 50 ∷ 0 ∷ 100 ∷ 3 ∷ 1 ∷ 2 ∷ 181 ∷ 1 ∷ 8001 ∷ 5 ∷ 10 ∷ 100 ∷ []

-- their book: 02, then 01 02 and so on to D0 0F 64
unfoldable pub two_rows : List ℕ
two_rows =
    2 ∷ 1 ∷ 2 ∷ 1 ∷ 2 ∷ 105 ∷ 100 ∷ 150 ∷ 1 ∷ 60 ∷ 180 ∷ 1 ∷ 61 ∷ 2 ∷ 3 ∷ 184 ∷ 23 ∷ 1 ∷ 3 ∷ 1 ∷ 4 ∷ 2 ∷ 2 ∷ 1 ∷ 184 ∷ 23 ∷ 0 ∷ 136 ∷ 39 ∷ 0 ∷ 0 ∷ 5 ∷ 172 ∷ 2 ∷ 50 ∷ 172 ∷ 2 ∷ 0 ∷ 232 ∷ 7 ∷ 100 ∷ 1 ∷ 3 ∷ 200 ∷ 1 ∷ 1 ∷ 1 ∷ 2 ∷ 240 ∷ 1 ∷ 181 ∷ 1 ∷ 1 ∷ 1 ∷ 192 ∷ 62 ∷ 193 ∷ 62 ∷ 4 ∷ 5 ∷ 200 ∷ 1 ∷ 10 ∷ 208 ∷ 15 ∷ 100 ∷ []

-- what reading a book answers with room for so many numbers: the rows, or the refusal's number and its place
unfoldable pub read : List ℕ → ℕ → List ℕ
read book room = written_values (rows_read book (replicate room 0))

-- the same of writing rows into a buffer of so many bytes
unfoldable pub written : List ℕ → ℕ → List ℕ
written rows room = written_values (book_written rows (replicate room 0))

unfoldable pub rows : List Row
unfolding numbers_J numbers_K two_rows
rows =
    -- no rows are byte 00, and the other way round; no bytes at all are no rows too, and leave what was lent
    case (book_of 0 [] ++ read (0 ∷ []) 0) (0 ∷ 0 ∷ [])
    ∷ case (read [] 0 ++ rows_left [] (9 ∷ [])) (0 ∷ 9 ∷ [])
    -- J alone: 01, and then the bytes of its file
    ∷ case (book_of 1 numbers_J)
    (1 ∷ 1 ∷ 1 ∷ 105 ∷ 150 ∷ 1 ∷ 180 ∷ 1 ∷ 2 ∷ 184 ∷ 23 ∷ 3 ∷ 4 ∷ 2 ∷ 184 ∷ 23 ∷ 136 ∷ 39 ∷ 0 ∷ 172 ∷ 2 ∷ 172 ∷ 2 ∷ 232 ∷ 7 ∷ 1 ∷ 200 ∷ 1 ∷ 1 ∷ 240 ∷ 1 ∷ 1 ∷ 192 ∷ 62 ∷ 4 ∷ 200 ∷ 1 ∷ 208 ∷ 15 ∷ [])
    -- two rows, byte by byte; a number after the last whole row is neither read nor touched
    ∷ case (book_left (numbers_J ++ numbers_K ++ (7 ∷ [])) (replicate 67 9)) (two_rows ++ (9 ∷ []))
    ∷ case (rows_left two_rows (replicate 51 9)) (numbers_J ++ numbers_K ++ (9 ∷ []))
    -- a count of 200 and no number after it; of 201, C9 01, whatever follows: a damaged number, or nothing
    ∷ case (read (200 ∷ 1 ∷ []) 0) (9 ∷ 2 ∷ [])
    ∷ case (read (201 ∷ 1 ∷ 128 ∷ 0 ∷ []) 0) (10 ∷ 201 ∷ [])
    ∷ case (read (201 ∷ 1 ∷ []) 0) (10 ∷ 201 ∷ [])
    -- 80 00 for the second number of row 0 and for the first of row 1: the one that stands first in the book; and for the former alone
    ∷ case (read (2 ∷ 1 ∷ 128 ∷ 0 ∷ 128 ∷ 0 ∷ []) 0) (9 ∷ 2 ∷ [])
    ∷ case (read (2 ∷ 1 ∷ 1 ∷ 128 ∷ 0 ∷ []) 0) (9 ∷ 3 ∷ [])
    -- a byte after the last number
    ∷ case (read (two_rows ++ (0 ∷ [])) 0) (9 ∷ 66 ∷ [])
    -- row 1 is bad by its first number, row 0 by its last: the lowest row; and row 1 alone
    ∷ case (read (book_of 2 (set numbers_J 24 99 ++ set numbers_K 0 4)) 0) (11 ∷ 0 ∷ [])
    ∷ case (read (book_of 2 (numbers_J ++ set numbers_K 0 4)) 0) (11 ∷ 1 ∷ [])
    -- bad rows by refusals 4 and 5, and by a first number of 3, which marks a support
    ∷ case (written (set numbers_J 9 5) 0 ++ written (set numbers_K 19 180) 0 ++ written (numbers_K ++ set numbers_J 0 3) 0) (11 ∷ 0 ∷ 11 ∷ 0 ∷ 11 ∷ 1 ∷ [])
    -- room for one row and 24 numbers is room for one; a byte too few
    ∷ case (read two_rows 49 ++ read two_rows 50) (8 ∷ 2 ∷ 2 ∷ [])
    ∷ case (written (numbers_J ++ numbers_K) 65 ++ written (numbers_J ++ numbers_K) 66) (8 ∷ 66 ∷ 66 ∷ [])
    -- of 201 rows none is read
    ∷ case (written (replicate 5025 0) 0) (10 ∷ 201 ∷ [])
    -- a refused book leaves the rows as they were
    ∷ case (rows_left (book_of 2 (numbers_J ++ set numbers_K 24 99)) (replicate 50 9)) (replicate 50 9)
    ∷ []

-- on an `unfolding` line: all that reading and writing books compute
unfoldable pub books : Unit {0}
unfolding files series joined across turned row_count columns rows_of book_of in_full row good good_at first_bad first_fail count_in numbers_due columns_in rows_in damage_in book_refusal read_refusal rows_read rows_left whole_book write_refusal book_written book_left
books = tt
