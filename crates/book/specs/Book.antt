-- Document 02, request 3: a book is a row count (0 to 200) and then all first numbers, all second numbers, to the 25th, each in the job file's groups. Rows stand one after the other, 25 numbers each.
-- Assumes nothing.
use Rattle.std.specs.Prelude.{ℕ, ◌*◌, ◌/◌, Bool, List, [], ◌∷◌, leb, eqb, is_ok, length, take, drop}
use Rattle.basis.specs.Refusal.{Examined, nothing, unless}
use Rattle.basis.specs.Search.{first_fail}
use Rattle.basis.specs.declared.Refusal.TheVariants.{BookCount, BookRow}
use Rattle.groups.specs.Encode.{encode_all}
use Rattle.jobfile.specs.Kind.{scaffold, examination}
use Rattle.book.specs.Columns.{turned}

-- the rows of a book at most, and the bytes of the longest
abbrev pub rows_most : ℕ
rows_most = 200

abbrev pub greatest_length : ℕ
greatest_length = 8402

-- how many whole rows there are
unfoldable pub row_count : List ℕ → ℕ
row_count rows = length rows / 25

-- all first numbers of n rows, all second numbers, to the 25th
unfoldable pub columns : ℕ → List ℕ → List ℕ
columns n rows = turned 25 n rows

-- the n rows of 25 columns
unfoldable pub rows_of : ℕ → List ℕ → List ℕ
rows_of n numbers = turned n 25 numbers

-- the book of n rows: the count, then the columns
unfoldable pub book_of : ℕ → List ℕ → List ℕ
book_of n rows = encode_all (n ∷ columns n rows)

-- a book in full: no bytes at all are an empty season, whose book is the count 0; every other is its bytes (document 02, request 9)
unfoldable pub in_full : List ℕ → List ℕ
in_full [] = 0 ∷ []
in_full (b ∷ rest) = b ∷ rest

-- row r
unfoldable pub row : List ℕ → ℕ → List ℕ
row rows r = take 25 (drop (25 * r) rows)

-- neither 3 nor 4 nor 5 refuses a scaffold's 25 numbers
unfoldable pub good : List ℕ → Bool
good ns = is_ok (examination scaffold ns)

unfoldable pub good_at : List ℕ → ℕ → Bool
good_at rows r = good (row rows r)

-- the lowest of n rows that is bad, n where there is none
unfoldable pub first_bad : ℕ → List ℕ → ℕ
first_bad n rows = first_fail (good_at rows) 0 n

-- 11 of that row
abbrev pub bad_row : ℕ → ℕ → Examined
bad_row n bad = unless (eqb bad n) (BookRow bad) nothing

-- 10 of a count above 200
abbrev pub count_refusal : ℕ → Examined
count_refusal n = unless (leb n rows_most) (BookCount n) nothing
