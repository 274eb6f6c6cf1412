-- Writing a book: refusals 10, 11 and 8 in bytes, in that order, or the book of the whole rows at the front of the buffer.
-- Assumes nothing.
use Rattle.std.specs.Prelude.{ℕ, List, length, Result}
use Rattle.basis.specs.Refusal.{Examined, first}
use Rattle.basis.specs.Writing.{room_refusal, written_or, left_or}
use Rattle.basis.specs.declared.Refusal.{Refusal}
use Rattle.book.specs.Book.{row_count, book_of, first_bad, bad_row, count_refusal}

-- the book of the whole rows
unfoldable pub whole_book : List ℕ → List ℕ
whole_book rows = book_of (row_count rows) rows

-- what is refused of rows and a buffer
unfoldable pub write_refusal : List ℕ → List ℕ → Examined
write_refusal rows out =
    first (count_refusal (row_count rows)) (first (bad_row (row_count rows) (first_bad (row_count rows) rows)) (room_refusal (whole_book rows) out))

-- the length of the book where nothing is refused, else the refusal
unfoldable pub book_written : List ℕ → List ℕ → Result ℕ Refusal
book_written rows out = written_or (write_refusal rows out) (length (whole_book rows))

-- the buffer afterwards: as it was where the answer is a refusal, else only the book's own length is written
unfoldable pub book_left : List ℕ → List ℕ → List ℕ
book_left rows out = left_or (write_refusal rows out) (whole_book rows) out
