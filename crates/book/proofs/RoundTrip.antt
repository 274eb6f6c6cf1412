-- The promises of specs/RoundTrip.antt, proved.
-- Assumes nothing.
use Prim.Native.Nat.{ℕ, ◌+◌, ◌*◌, ◌≤◌, ◌<◌}
use mathlib.Core.Path.{◌≡◌, ◌∙◌, refl, sym, ap}
use mathlib.Core.List.{List, [], ◌++◌}
use native.Mathlib.Omega.{arith}
use lib.ListN.{length, take, drop, length-append}
use lib.Seq.{take-append_seam, take_at, length-take-le}
use Rattle.std.specs.Prelude.{Ok}
use Rattle.basis.specs.Refusal.{nothing, first}
use Rattle.basis.proofs.Rows.{unrefused}
use Rattle.groups.specs.Encode.{groups, encode, encode_all}
use Rattle.groups.specs.Decode.{Bytes}
use Rattle.groups.proofs.Encode.{cap, encode_short, encode_some}
use Rattle.jobfile.specs.Kind.{scaffold, examination}
use Rattle.jobfile.specs.Marked.{longest, files}
use Rattle.jobfile.proofs.BothKinds.{told as job-told}
use Rattle.basis.proofs.Refusals.{first_answers}
use Rattle.jobfile.proofs.Sizes.{file_short}
use Rattle.book.specs.Columns.{series, joined, across, turned}
use Rattle.book.specs.Book.{rows_most, greatest_length, row_count, columns, book_of, in_full, row}
use Rattle.book.specs.Read.{count_in, rows_in, read_refusal, rows_read, rows_left}
use Rattle.book.specs.Write.{whole_book, write_refusal, book_written, book_left}
use Rattle.book.specs.Rows.{AllStand, Stands, Reads, Writes}
use Rattle.book.specs.RoundTrip.{Accepted, RoundTrip}
use Rattle.book.proofs.Columns.{joined_long, joined_part}
use Rattle.book.proofs.Lengths.{sum, sum_most, sum_even, joined_bytes, turned_bytes}
use Rattle.book.proofs.Narrow.{rows_joined, row_long, stand_narrow}
use Rattle.book.proofs.Held.{full_itself, held_count, held_rows, book_take, row_take}
use Rattle.book.proofs.Rows.{read_none, write_none, told}
use Rattle.book.proofs.Answered.{read_done, write_done}

-- ---- Reading

-- a book of rows has bytes, the count's at least
pub book_full : (n : ℕ) (rows : List ℕ) → in_full (book_of n rows) ≡ book_of n rows
unfolding book_of encode_all
book_full n rows = full_itself (book_of n rows) (omega (arith, encode_some n, length-append (encode n) (encode_all (columns n rows))))

pub standing : (n : ℕ) (rows : List ℕ) → Accepted n rows → Stands (book_of n rows) n rows
standing n rows a =
    record { holds = record { is = book_full n rows; few = a.few; long = a.long; narrow = stand_narrow n rows a.long a.stand }; stand = a.stand }

-- what reading answers and leaves where it is not refused
pub read_answer : (book out : List ℕ) (n : ℕ) (rows : List ℕ) → Reads book out n rows → (rows_read book out ≡ Ok n) × (rows_left book out ≡ rows ++ drop (25 * n) out)
read_answer book out n rows a =
    let h = a.stands.holds in
    rw (held_count book n rows h, held_rows book n rows h) at (read_done book out (read_none book out n rows a))

rows_back : (n : ℕ) (rows out : List ℕ) → Accepted n rows → n ≤ row_count out
    → (rows_read (book_of n rows) out ≡ Ok n) × (rows_left (book_of n rows) out ≡ rows ++ drop (25 * n) out)
rows_back n rows out a l = read_answer (book_of n rows) out n rows (record { stands = standing n rows a; room = l })

-- and where it answers a number of rows
pub read_reads : (book out : List ℕ) (n : ℕ) → Bytes book → rows_read book out ≡ Ok n → (rows : List ℕ) × Reads book out n rows
unfolding rows_read
read_reads book out n w e =
    let a = first_answers (read_refusal book out) (Ok (count_in book)) e in
    let m : count_in book ≡ n = cc (a.1) in
    let u = unrefused (told.reading book out w) a.0 in
    let c : u.0 ≡ n = sym (held_count book u.0 u.1.0 u.1.1.stands.holds) ∙ m in
    (u.1.0, rw c at u.1.1)

pub rows_read_lem : (book out : List ℕ) (n : ℕ) (rows : List ℕ) → Reads book out n rows → take (25 * n) (rows_left book out) ≡ rows
rows_read_lem book out n rows a = rw (read_answer book out n rows a).1 (take_at rows (drop (25 * n) out) (25 * n) a.stands.holds.long)

stands_accepted : {book : List ℕ} (n : ℕ) (rows : List ℕ) → Stands book n rows → Accepted n rows
stands_accepted n rows a = record { few = a.holds.few; long = a.holds.long; stand = a.stand }

book_back : (book out : List ℕ) (n : ℕ) → Bytes book → rows_read book out ≡ Ok n →
    (let rows = take (25 * n) (rows_left book out) in
    Accepted n rows × (book_of n rows ≡ in_full book) × (rows_left book out ≡ rows ++ drop (25 * n) out))
book_back book out n w e =
    let u = read_reads book out n w e in
    let rows = u.0 in
    let a = u.1 in
    rw (rows_read_lem book out n rows a) (stands_accepted n rows a.stands, sym a.stands.holds.is, (read_answer book out n rows a).1)

no_bytes : (out : List ℕ) → (rows_read [] out ≡ Ok 0) × (rows_left [] out ≡ out)
unfolding in_full book_of encode_all encode groups columns turned joined across series
no_bytes out =
    read_answer [] out 0 [] (record { stands = record { holds = record { is = refl; few = omega arith; long = refl; narrow = tt }; stand = λ r l. absurd (omega arith) }; room = omega arith })

-- ---- Writing

pub write_answer : (rows out : List ℕ) → Writes rows out → (book_written rows out ≡ Ok (length (whole_book rows))) × (book_left rows out ≡ whole_book rows ++ drop (length (whole_book rows)) out)
write_answer rows out a = write_done rows out (write_none rows out a)

-- the whole rows of those that are lent
whole_accepted : (rows : List ℕ) → row_count rows ≤ rows_most → AllStand (row_count rows) rows → Accepted (row_count rows) (take (25 * row_count rows) rows)
whole_accepted rows l s =
    record {
      few = l;
      long = length-take-le (25 * row_count rows) rows (unfold row_count in omega arith);
      stand = λ r k. rw (row_take (row_count rows) rows r k) (s r k);
    }

written_reads : (rows out back : List ℕ) (n : ℕ) → book_written rows out ≡ Ok n → row_count rows ≤ row_count back →
    (let book = take n (book_left rows out) in
    (rows_read book back ≡ Ok (row_count rows)) × (rows_left book back ≡ take (25 * row_count rows) rows ++ drop (25 * row_count rows) back))
written_reads rows out back n e l =
    let f : first (write_refusal rows out) (Ok (length (whole_book rows))) ≡ Ok n = unfold book_written in e in
    let a = first_answers (write_refusal rows out) (Ok (length (whole_book rows))) f in
    let m : length (whole_book rows) ≡ n = cc (a.1) in
    let u = unrefused (told.writing rows out) a.0 in
    let b : take n (book_left rows out) ≡ book_of (row_count rows) (take (25 * row_count rows) rows) = rw ((write_answer rows out u).1, ← m, take-append_seam) (whole rows) in
    rw b (rows_back (row_count rows) (take (25 * row_count rows) rows) back (whole_accepted rows u.few u.stand) l)
  where
    whole : (rows : List ℕ) → whole_book rows ≡ book_of (row_count rows) (take (25 * row_count rows) rows)
    whole rows = unfold whole_book in sym (book_take (row_count rows) rows)

-- as many rows as there are
rows_counted : (n : ℕ) (rows : List ℕ) → length rows ≡ 25 * n → row_count rows ≡ n
unfolding row_count
rows_counted n rows e = omega (arith, e)

pub rewritten : (n : ℕ) (rows out : List ℕ) → Accepted n rows → length (book_of n rows) ≤ length out
    → (book_written rows out ≡ Ok (length (book_of n rows))) × (book_left rows out ≡ book_of n rows ++ drop (length (book_of n rows)) out)
rewritten n rows out a l =
    let c = rows_counted n rows a.long in
    let b : whole_book rows ≡ book_of n rows = unfold whole_book in rw c in
    rw b at (write_answer rows out (record { few = rw c a.few; stand = rw c a.stand; room = rw b l }))

read_writes : (book out back : List ℕ) (n : ℕ) → Bytes book → rows_read book out ≡ Ok n → length (in_full book) ≤ length back →
    (let rows = take (25 * n) (rows_left book out) in
    (book_written rows back ≡ Ok (length (in_full book))) × (book_left rows back ≡ in_full book ++ drop (length (in_full book)) back))
read_writes book out back n w e l =
    let u = read_reads book out n w e in
    let rows = u.0 in
    let a = u.1 in
    let b : book_of n rows ≡ in_full book = sym a.stands.holds.is in
    rw (rows_read_lem book out n rows a) (rw b at (rewritten n rows back (stands_accepted n rows a.stands) (rw b l)))

one_list : (n m : ℕ) (rows others : List ℕ) → Accepted n rows → Accepted m others → book_of n rows ≡ book_of m others → (n ≡ m) × (rows ≡ others)
one_list n m rows others a b e =
    let g = (standing n rows a).holds in
    let h = (standing m others b).holds in
    (sym (held_count _ n rows g) ∙ ap count_in e ∙ held_count _ m others h, sym (held_rows _ n rows g) ∙ ap rows_in e ∙ held_rows _ m others h)

-- the same of whole rows, whatever follows them
pub whole_one : (rows others : List ℕ) → row_count rows ≤ rows_most → AllStand (row_count rows) rows → row_count others ≤ rows_most → AllStand (row_count others) others
    → whole_book rows ≡ whole_book others → take (25 * row_count rows) rows ≡ take (25 * row_count others) others
unfolding whole_book
whole_one rows others l s m t e =
    (one_list (row_count rows) (row_count others) _ _ (whole_accepted rows l s) (whole_accepted others m t)
    (book_take (row_count rows) rows ∙ e ∙ sym (book_take (row_count others) others))).1

-- ---- The longest book

-- the columns take the bytes of the rows
columns_bytes : (n : ℕ) (rows : List ℕ) → length rows ≡ 25 * n → length (encode_all (columns n rows)) ≡ sum (λ r. length (encode_all (row rows r))) 0 n
unfolding columns
columns_bytes n rows e = turned_bytes 25 n rows e ∙ ap (λ (t : List ℕ). length (encode_all t)) (sym (rows_joined n rows e)) ∙ joined_bytes (row rows) n 0

book_bytes : (n : ℕ) (rows : List ℕ) → length rows ≡ 25 * n → length (book_of n rows) ≡ length (encode n) + sum (λ r. length (encode_all (row rows r))) 0 n
unfolding book_of encode_all
book_bytes n rows e = length-append (encode n) (encode_all (columns n rows)) ∙ ap (λ (x : ℕ). length (encode n) + x) (columns_bytes n rows e)

at_most : (n : ℕ) (rows : List ℕ) → Accepted n rows → length (book_of n rows) ≤ greatest_length
at_most n rows a =
    omega (arith, a.few, book_bytes n rows a.long, encode_short 1 n (unfold cap in omega (arith, a.few)), sum_most (λ r. length (encode_all (row rows r))) 42 n 0 short)
  where
    short : (r : ℕ) → 0 ≤ r → r < 0 + n → length (encode_all (row rows r)) ≤ 42
    short r z l = file_short scaffold (row rows r) (row_long n rows r (omega (arith, a.long)) (omega arith)) (a.stand r (omega arith))

-- 200 rows that are all the longest job
unfoldable all_longest : List ℕ
all_longest = joined (λ r. longest scaffold) 0 rows_most

longest_row : (r : ℕ) → r < rows_most → row all_longest r ≡ longest scaffold
unfolding row all_longest longest
longest_row r l = joined_part (λ r. longest scaffold) 25 (λ i. refl) rows_most r l

longest_examined : examination scaffold (longest scaffold) ≡ nothing
unfolding longest files
longest_examined = refl

longest_bytes : length (encode_all (longest scaffold)) ≡ 42
unfolding longest files
longest_bytes = refl

all_accepted : Accepted rows_most all_longest
all_accepted =
    record {
      few = omega arith;
      long = unfold all_longest in unfold longest in joined_long (λ r. longest scaffold) 25 (λ i. refl) rows_most 0;
      stand = λ r l. rw (longest_row r l) (unrefused (job-told scaffold (longest scaffold)) longest_examined);
    }

all_bytes : length (book_of rows_most all_longest) ≡ greatest_length
unfolding encode groups
all_bytes = book_bytes rows_most all_longest all_accepted.long ∙ ap (λ (x : ℕ). length (encode 200) + x) (sum_even _ 42 rows_most 0 (λ r z l. rw (longest_row r l) longest_bytes))

-- the book of whole rows that stand, whatever follows them
pub whole_most : (rows : List ℕ) → row_count rows ≤ rows_most → AllStand (row_count rows) rows → length (whole_book rows) ≤ greatest_length
unfolding whole_book
whole_most rows l s = omega (arith, ap length (book_take (row_count rows) rows), at_most (row_count rows) (take (25 * row_count rows) rows) (whole_accepted rows l s))

enough : (rows out : List ℕ) → row_count rows ≤ rows_most → AllStand (row_count rows) rows → greatest_length ≤ length out → book_written rows out ≡ Ok (length (book_of (row_count rows) rows))
unfolding whole_book
enough rows out l s h = (write_answer rows out (record { few = l; stand = s; room = omega (arith, whole_most rows l s) })).0

pub round_trip : RoundTrip
round_trip =
    record {
      no_bytes = no_bytes;
      rows_back = rows_back;
      book_back = book_back;
      written_reads = written_reads;
      read_writes = read_writes;
      one_list = one_list;
      at_most = at_most;
      reached = (all_longest, all_accepted, all_bytes);
      room = enough;
    }
