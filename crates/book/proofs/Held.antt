-- What is read of the book of some rows: its count, no damage, and those rows.
-- Assumes nothing.
use Prim.Native.Nat.{ℕ, zero, suc, ◌-◌, ◌*◌, ◌<◌}
use mathlib.Core.Path.{◌≡◌, ◌∙◌, refl, ap}
use mathlib.Core.List.{List, [], ◌∷◌, append-nil}
use native.Mathlib.Nat.{mul_comm}
use native.Mathlib.Omega.{arith}
use lib.Dec.{lit<}
use lib.ListN.{length, take, drop}
use lib.Seq.{take-take}
use Rattle.basis.specs.Refusal.{nothing}
use Rattle.groups.specs.Encode.{encode_all}
use Rattle.groups.specs.Numbers.{damage}
use Rattle.groups.specs.Decode.{Bytes}
use Rattle.groups.specs.Rows.{Starts}
use Rattle.groups.specs.Rows as Groups
use Rattle.groups.proofs.Rows as Groups-told
use Rattle.groups.proofs.Beginning.{drop_take}
use Rattle.groups.proofs.Places.{first_number}
use Rattle.book.specs.Book.{columns, rows_of, book_of, in_full, row}
use Rattle.book.specs.Read.{count_in, numbers_due, columns_in, rows_in}
use Rattle.book.specs.Rows.{Holds}
use Rattle.book.proofs.Columns.{turned_long, turned_take, turned_twice}
use Rattle.book.proofs.Narrow.{turned_narrow}

-- the count that stands at the front
pub starts_count : (book rest : List ℕ) (n : ℕ) → Starts (in_full book) (n ∷ []) rest → count_in book ≡ n
unfolding count_in
starts_count book rest n s = rw s.is (first_number (n ∷ []) rest s.narrow (lit< tt))

pub columns_long : (n : ℕ) (rows : List ℕ) → length (columns n rows) ≡ 25 * n
unfolding columns
columns_long n rows = turned_long 25 n rows ∙ mul_comm n 25

pub rows_long : (n : ℕ) (numbers : List ℕ) → length (rows_of n numbers) ≡ 25 * n
unfolding rows_of
rows_long n numbers = turned_long n 25 numbers

-- rows turned into columns and back, and columns into rows and back
pub rows_columns : (n : ℕ) (rows : List ℕ) → length rows ≡ 25 * n → rows_of n (columns n rows) ≡ rows
unfolding rows_of columns
rows_columns n rows e = turned_twice 25 n rows e

pub columns_rows : (n : ℕ) (numbers : List ℕ) → length numbers ≡ 25 * n → columns n (rows_of n numbers) ≡ numbers
unfolding rows_of columns
columns_rows n numbers e = turned_twice n 25 numbers (e ∙ mul_comm 25 n)

-- the bytes in full are bytes, and those of every book but the one of no bytes
pub full_bytes : (book : List ℕ) → Bytes book → Bytes (in_full book)
unfolding in_full
full_bytes [] w zero = lit< tt
full_bytes [] w (suc i) = lit< tt
full_bytes (b ∷ rest) w i = w i

pub full_itself : (book : List ℕ) → 0 < length book → in_full book ≡ book
unfolding in_full
full_itself [] l = absurd (omega arith)
full_itself (b ∷ rest) l = refl

module _ (book : List ℕ) (n : ℕ) (rows : List ℕ) (h : Holds book n rows) where
  -- it is a file of 1 + 25 n numbers
  pub held : Groups.Holds (suc (25 * n)) (in_full book) (n ∷ columns n rows)
  unfolding book_of columns
  held =
      record {
        is = h.is;
        narrow = (omega (arith, h.few), turned_narrow 25 n rows h.narrow);
        long = ap suc (columns_long n rows);
      }

  pub held_count : count_in book ≡ n
  unfolding count_in book_of
  held_count = rw (h.is, ← append-nil (encode_all (n ∷ columns n rows))) (first_number (n ∷ columns n rows) [] held.narrow (omega arith))

  pub held_undamaged : damage (numbers_due book) 0 (in_full book) ≡ nothing
  unfolding numbers_due
  held_undamaged = rw held_count (Groups-told.none_is (suc (25 * n)) (in_full book) (n ∷ columns n rows) held)

  pub held_rows : rows_in book ≡ rows
  unfolding rows_in columns_in numbers_due
  held_rows = rw (held_count, Groups-told.holds_values (suc (25 * n)) (in_full book) (n ∷ columns n rows) held) (rows_columns n rows h.long)

-- only the rows themselves go into their book
pub book_take : (n : ℕ) (rows : List ℕ) → book_of n (take (25 * n) rows) ≡ book_of n rows
unfolding book_of columns
book_take n rows = ap (λ (t : List ℕ). encode_all (n ∷ t)) (turned_take 25 n rows)

pub row_take : (n : ℕ) (rows : List ℕ) (r : ℕ) → r < n → row (take (25 * n) rows) r ≡ row rows r
unfolding row
row_take n rows r h = rw (drop_take (25 * r) (25 * n) rows) (take-take 25 (25 * n - 25 * r) (drop (25 * r) rows) (omega arith))
