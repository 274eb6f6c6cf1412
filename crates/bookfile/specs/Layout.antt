-- How a book is laid out as the code goes through it: its count and where that ends, how many rows it has and where its columns start.
-- Assumes nothing.
use Rattle.std.specs.Prelude.{ℕ, ◌*◌, List, [], ◌∷◌, drop, Result, Ok, ok_or}
use Rattle.basis.specs.Refusal.{first}
use Rattle.basis.specs.declared.Refusal.{Refusal}
use Rattle.basis.specs.declared.Refusal.TheVariants.{BookDamaged}
use Rattle.groups.specs.Decode.{decode}
use Rattle.groups.specs.Numbers.{damage, bytes_of}
use Rattle.book.specs.Book.{bad_row, count_refusal}
use Rattle.book.specs.Read.{count_in, book_damage}
use Rattle.bookfile.specs.Places.{starts, first_bad_at}
use Rattle.bookfile.specs.declared.layout.Layout.{Layout}

-- the count at the front and the place after it: no bytes at all are the count 0; or 9 at 0
abbrev pub counted : List ℕ → Result (ℕ × ℕ) Refusal
counted [] = Ok (0, 0)
counted (b ∷ rest) = ok_or (decode (b ∷ rest)) (BookDamaged 0)

-- what is answered of n rows whose columns start at k: 10, 9, 11, or where they stand
unfoldable pub laid_out : List ℕ → ℕ → ℕ → Result Layout Refusal
laid_out book n k =
    first (count_refusal n)
    (first (book_damage (damage (25 * n) k (drop k book)))
    (first (bad_row n (first_bad_at book (starts book k n) n))
    (Ok (record { count = n; places = starts book k n }))))

-- of a book that stands: its count, and the columns after it
unfoldable pub layout_of : List ℕ → Layout
layout_of book = record { count = count_in book; places = starts book (bytes_of (decode book)) (count_in book) }
