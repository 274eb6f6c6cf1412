-- Reading a book: refusals 10, 9, 11 and 8 in rows, in that order, or its rows. A damaged count is 9 at 0: it has no value above 200.
-- Assumes nothing.
use Rattle.std.specs.Prelude.{ℕ, suc, ◌*◌, List, leb, drop, Result, Ok, Err}
use Rattle.basis.specs.Refusal.{place, Examined, nothing, unless, first}
use Rattle.basis.specs.Writing.{written_or, left_or}
use Rattle.basis.specs.declared.Refusal.{Refusal}
use Rattle.basis.specs.declared.Refusal.TheVariants.{TooShort, BookDamaged}
use Rattle.groups.specs.Decode.{decode}
use Rattle.groups.specs.Numbers.{damage, values, value_of}
use Rattle.book.specs.Book.{row_count, rows_of, in_full, first_bad, bad_row, count_refusal}

-- the count that a book begins with, 0 of a damaged one
unfoldable pub count_in : List ℕ → ℕ
count_in book = value_of (decode (in_full book))

-- how many numbers are to stand in it: the count, and 25 for each row
unfoldable pub numbers_due : List ℕ → ℕ
numbers_due book = suc (25 * count_in book)

-- the numbers after the count, and the rows that they make
unfoldable pub columns_in : List ℕ → List ℕ
columns_in book = drop 1 (values (numbers_due book) (in_full book))

unfoldable pub rows_in : List ℕ → List ℕ
rows_in book = rows_of (count_in book) (columns_in book)

-- what damages a job file or follows its numbers is 9 in a book
abbrev pub book_damage : Examined → Examined
book_damage (Ok none) = nothing
book_damage (Err refusal) = Err (BookDamaged (place refusal))

-- 9, of a damaged number or of the bytes after the last
unfoldable pub damage_in : List ℕ → Examined
damage_in book = book_damage (damage (numbers_due book) 0 (in_full book))

-- what is refused of a book, whatever its rows are put into: 10 as soon as the count is read, then 9 and 11
unfoldable pub book_refusal : List ℕ → Examined
book_refusal book = first (count_refusal (count_in book)) (first (damage_in book) (bad_row (count_in book) (first_bad (count_in book) (rows_in book))))

-- and of the rows lent: then 8
unfoldable pub read_refusal : List ℕ → List ℕ → Examined
read_refusal book out = first (book_refusal book) (unless (leb (count_in book) (row_count out)) (TooShort (count_in book)) nothing)

-- the number of rows where nothing is refused, else the refusal
unfoldable pub rows_read : List ℕ → List ℕ → Result ℕ Refusal
rows_read book out = written_or (read_refusal book out) (count_in book)

-- the rows lent afterwards: as they were where the answer is a refusal, else only the book's are written
unfoldable pub rows_left : List ℕ → List ℕ → List ℕ
rows_left book out = left_or (read_refusal book out) (rows_in book) out
