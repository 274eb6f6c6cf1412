-- What the code writes from rows of 25: their numbers one after the other, and the bytes of a number and of a column; the contracts within the crate speak of this, and no promise to callers.
-- Assumes nothing.
use Rattle.std.specs.Prelude.{ℕ, ◌+◌, ◌*◌, List, length, get_or, flat_map}
use Rattle.groups.specs.Encode.{encode, encode_all}
use Rattle.book.specs.Columns.{across}
use Rattle.book.specs.Book.{columns, book_of}

-- the numbers of some rows, one row after the other
abbrev pub flat : List (List ℕ) → List ℕ
flat rows = flat_map (λ row. row) rows

-- of number c of row r
unfoldable pub entry_bytes : List ℕ → ℕ → ℕ → List ℕ
entry_bytes rows c r = encode (get_or rows (25 * r + c) 0)

-- of column c of n rows
unfoldable pub column_bytes : ℕ → List ℕ → ℕ → List ℕ
column_bytes n rows c = encode_all (across 25 n rows c)

-- of column c of some rows of 25, of all their columns, and of their book
abbrev pub column_of : List (List ℕ) → ℕ → List ℕ
column_of rows c = column_bytes (length rows) (flat rows) c

abbrev pub columns_of : List (List ℕ) → List ℕ
columns_of rows = encode_all (columns (length rows) (flat rows))

abbrev pub book_of_rows : List (List ℕ) → List ℕ
book_of_rows rows = book_of (length rows) (flat rows)
