-- Laws of `write`: the book's length, and what is refused, by its ways.
-- Assumes nothing.
use Prim.Native.Nat.{ℕ, ◌+◌, ◌*◌, ◌/◌}
use mathlib.Core.Path.{◌≡◌, ◌∙◌, refl, sym, ap, ap₂}
use mathlib.Core.List.{List}
use native.Mathlib.Omega.{arith}
use lib.ListN.{length, take}
use Rattle.std.specs.Simd.{first_chunks}
use Rattle.basis.specs.Refusal.{first}
use Rattle.basis.specs.Writing.{room_refusal, written_or, left_or}
use Rattle.groups.specs.Encode.{encode, encode_all}
use Rattle.book.specs.Book.{row_count, columns, first_bad, bad_row, count_refusal}
use Rattle.book.specs.Write.{whole_book, write_refusal, book_written, book_left}
use Rattle.groups.proofs.Encode.{all_few}
use Rattle.book.proofs.Held.{book_take}
use Rattle.book.proofs.Lengths.{turned_bytes}
use Rattle.bookfile.specs.Pieces.{flat, columns_of, book_of_rows}
use Rattle.bookfile.proofs.Pieces.{book_length}
use Rattle.bookfile.proofs.Flat.{flat_chunks, bad_take}

-- the book of some rows takes a count and the bytes of their numbers
pub needed_is : (whole : List (List ℕ)) {numbers : List ℕ} {a b : ℕ} → numbers ≡ flat whole → length numbers ≡ length whole * 25 → a ≡ length (encode (length whole))
    → b ≡ length (encode_all numbers) → a + b ≡ length (book_of_rows whole)
needed_is whole {numbers} v l e f = ap₂ ◌+◌ e (f ∙ ap (λ (t : List ℕ). length (encode_all t)) v ∙ sym columns_bytes) ∙ sym (book_length (length whole) (flat whole))
  where
    columns_bytes : length (columns_of whole) ≡ length (encode_all (flat whole))
    columns_bytes = unfold columns in turned_bytes 25 (length whole) (flat whole) (omega (arith, ap length v, l))

-- of the whole rows that are cut from some numbers
module _ (rows out : List ℕ) {whole : List (List ℕ)} (cut : whole ≡ first_chunks 25 (length rows / 25) rows) (l : length whole ≡ length rows / 25) where
  taken : flat whole ≡ take (25 * (length rows / 25)) rows
  taken = ap flat cut ∙ flat_chunks (length rows / 25) rows

  book_is : whole_book rows ≡ book_of_rows whole
  unfolding whole_book row_count
  book_is = rw (l, taken) (sym (book_take (length rows / 25) rows))

  -- the refusals, one after the other
  parts : write_refusal rows out ≡ first (count_refusal (length whole)) (first (bad_row (length whole) (first_bad (length whole) (flat whole))) (room_refusal (book_of_rows whole) out))
  unfolding write_refusal row_count
  parts = rw (← book_is, l, taken, bad_take (length rows / 25) rows) refl

  -- what is answered and left
  pub answers : book_written rows out ≡ written_or (first (count_refusal (length whole)) (first (bad_row (length whole) (first_bad (length whole) (flat whole))) (room_refusal (book_of_rows whole) out))) (length (book_of_rows whole))
  unfolding book_written
  answers = rw (parts, book_is) refl

  pub leaves : book_left rows out ≡ left_or (first (count_refusal (length whole)) (first (bad_row (length whole) (first_bad (length whole) (flat whole))) (room_refusal (book_of_rows whole) out))) (book_of_rows whole) out
  unfolding book_left
  leaves = rw (parts, book_is) refl

-- what the writer is told of its way
pub ruleset way = (answers, leaves, needed_is, all_few)
