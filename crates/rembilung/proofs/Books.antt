-- What is asked of books, proved: from the table's rows and the round trip of crate book.
-- Assumes nothing.
use Prim.Native.Nat.{ℕ, ◌*◌, ◌/◌, ◌≤◌, ◌<◌}
use mathlib.Core.Path.{◌≡◌, ◌∙◌, sym}
use mathlib.Core.List.{List, [], ◌++◌}
use mathlib.Core.Logic.{⊎_elim}
use native.Mathlib.Omega.{arith}
use lib.Dec.{lit<}
use lib.ListN.{length, take, drop}
use lib.Seq.{take-append_seam}
use Rattle.basis.proofs.Rows.{exactly}
use Rattle.groups.specs.Decode.{Bytes}
use Rattle.book.specs.Book.{rows_most, row_count, in_full}
use Rattle.book.specs.Read.{rows_read, rows_left}
use Rattle.book.specs.Write.{whole_book, book_written, book_left}
use Rattle.book.specs.Rows as Book
use Rattle.book.specs.Rows.{ReadRow, Reads, WriteRow, Writes}
use Rattle.book.proofs.Rows.{told}
use Rattle.book.proofs.Answered as Answered
use Rattle.book.proofs.RoundTrip.{read_answer, write_answer, rewritten, whole_one, whole_most, round_trip}
use Rattle.rembilung.specs.Call.{write_book_code, write_book_buffer, read_book_code, read_book_buffer}
use Rattle.rembilung.specs.Table.{Refuses}
use Rattle.rembilung.specs.Header.{Halves}
use Rattle.rembilung.specs.Books.{book_most, book_rows_most, SomeRows, Books}
use Rattle.rembilung.proofs.Answered.{returned, refuses}
use Rattle.rembilung.proofs.Header.{halves}

-- ---- Writing

module _ (rows out : List ℕ) where
  write_refused : (n p : ℕ) → WriteRow rows out n p → Refuses n p (write_book_code rows out) out (write_book_buffer rows out)
  unfolding write_book_code write_book_buffer
  write_refused n p a = refuses (book_written rows out) out (book_left rows out) (λ x. Answered.write_refused rows out) n p ((told.writing rows out).row n p a)

  write_answered : Writes rows out → (write_book_code rows out ≡ length (whole_book rows)) × (write_book_buffer rows out ≡ whole_book rows ++ drop (length (whole_book rows)) out)
  unfolding write_book_code write_book_buffer
  write_answered a = let d = write_answer rows out a in (returned d.0, d.1)

  write_halves : Halves (write_book_code rows out) (WriteRow rows out) (Writes rows out)
  write_halves =
      halves (told.writing rows out) (write_book_code rows out) (λ n p a. (write_refused n p a).code) (λ a. omega (arith, (write_answered a).0, whole_most rows a.few a.stand))

  write_never_8 : book_most ≤ length out → write_book_code rows out / 4294967296 ≡ 8 → ⊥
  write_never_8 l e = ⊎_elim (λ a. omega (arith, write_halves.answered a)) (λ r. row r.0 r.1.0 r.1.1) (told.writing rows out).every
    where
      row : (n p : ℕ) → WriteRow rows out n p → ⊥
      row n p (WriteRow.count u) = omega (arith, (write_halves.refused 10 _ (WriteRow.count u)).0)
      row n p (WriteRow.row_bad u r b) = omega (arith, (write_halves.refused 11 _ (WriteRow.row_bad u r b)).0)
      row n p (WriteRow.short u s k) = omega (arith, whole_most rows u s)

-- ---- Reading

-- the refusals of a book by itself are above 8
past_8 : {book : List ℕ} (n p : ℕ) → Book.Row book n p → 8 < n
past_8 n p (Book.Row.no_count d) = lit< tt
past_8 n p (Book.Row.count m rest s u) = lit< tt
past_8 n p (Book.Row.damaged m rest s u i q r) = lit< tt
past_8 n p (Book.Row.row_bad m rows h r b) = lit< tt

module _ (book out : List ℕ) (w : Bytes book) where
  read_refused : (n p : ℕ) → ReadRow book out n p → Refuses n p (read_book_code book out) out (read_book_buffer book out)
  unfolding read_book_code read_book_buffer
  read_refused n p a = refuses (rows_read book out) out (rows_left book out) (λ x. Answered.read_refused book out) n p ((told.reading book out w).row n p a)

  read_answered : (n : ℕ) (rows : List ℕ) → Reads book out n rows → (read_book_code book out ≡ n) × (read_book_buffer book out ≡ rows ++ drop (25 * n) out)
  unfolding read_book_code read_book_buffer
  read_answered n rows a = let d = read_answer book out n rows a in (returned d.0, d.1)

  read_halves : Halves (read_book_code book out) (ReadRow book out) (SomeRows book out)
  read_halves =
      halves (told.reading book out w) (read_book_code book out) (λ n p a. (read_refused n p a).code)
      (λ a. omega (arith, (read_answered a.0 a.1.0 a.1.1).0, a.1.1.stands.holds.few))

  read_never_8 : book_rows_most ≤ row_count out → read_book_code book out / 4294967296 ≡ 8 → ⊥
  read_never_8 l e = ⊎_elim (λ a. omega (arith, read_halves.answered a)) (λ r. row r.0 r.1.0 r.1.1) (told.reading book out w).every
    where
      row : (n p : ℕ) → ReadRow book out n p → ⊥
      row n p (ReadRow.of_book m q r) = omega (arith, (read_halves.refused m q (ReadRow.of_book m q r)).0, past_8 m q r)
      row n p (ReadRow.short m rows a u) = omega (arith, a.holds.few)

-- ---- Both

rows_back : (rows out back : List ℕ) → write_book_code rows out / 4294967296 ≡ 0 → row_count rows ≤ row_count back →
    (let book = take (write_book_code rows out) (write_book_buffer rows out) in
    (read_book_code book back ≡ row_count rows) × (read_book_buffer book back ≡ take (25 * row_count rows) rows ++ drop (25 * row_count rows) back))
unfolding write_book_buffer read_book_code read_book_buffer
rows_back rows out back e l =
    let a = (write_halves rows out).only e in
    let d = round_trip.written_reads rows out back (length (whole_book rows)) (write_answer rows out a).0 l in
    rw (write_answered rows out a).0 (returned d.0, d.1)

book_back : (book out back : List ℕ) → Bytes book → read_book_code book out / 4294967296 ≡ 0 → length (in_full book) ≤ length back →
    (let rows = take (25 * read_book_code book out) (read_book_buffer book out) in
    (write_book_code rows back ≡ length (in_full book)) × (write_book_buffer rows back ≡ in_full book ++ drop (length (in_full book)) back))
unfolding read_book_buffer write_book_code write_book_buffer
book_back book out back w e l =
    let a = (read_halves book out w).only e in
    let d = round_trip.read_writes book out back a.0 w (read_answer book out a.0 a.1.0 a.1.1).0 l in
    rw (read_answered book out w a.0 a.1.0 a.1.1).0 (returned d.0, d.1)

no_bytes : (out : List ℕ) → (read_book_code [] out ≡ 0) × (read_book_buffer [] out ≡ out)
unfolding read_book_code read_book_buffer
no_bytes out = let d = round_trip.no_bytes out in (returned d.0, d.1)

-- the book that was written
written : (rows out : List ℕ) → Writes rows out → take (write_book_code rows out) (write_book_buffer rows out) ≡ whole_book rows
written rows out a = rw ((write_answered rows out a).0, (write_answered rows out a).1) (take-append_seam (whole_book rows) _)

one_list : (rows others out back : List ℕ) → write_book_code rows out / 4294967296 ≡ 0 → write_book_code others back / 4294967296 ≡ 0
    → take (write_book_code rows out) (write_book_buffer rows out) ≡ take (write_book_code others back) (write_book_buffer others back)
    → take (25 * row_count rows) rows ≡ take (25 * row_count others) others
one_list rows others out back e f s =
    let a = (write_halves rows out).only e in
    let b = (write_halves others back).only f in
    whole_one rows others a.few a.stand b.few b.stand (sym (written rows out a) ∙ s ∙ written others back b)

most_reached : (rows : List ℕ) × ((out : List ℕ) → book_most ≤ length out → write_book_code rows out ≡ book_most)
unfolding write_book_code
most_reached =
    let m = round_trip.reached in
    (m.0, λ out l. returned (rewritten rows_most m.0 out m.1 (omega (arith, m.2))).0 ∙ m.2)

pub books : Books
books =
    record {
      write_refused = write_refused;
      write_answered = write_answered;
      write_exactly = λ rows out. exactly (told.writing rows out);
      read_refused = read_refused;
      read_answered = read_answered;
      read_exactly = λ book out w. exactly (told.reading book out w);
      rows_back = rows_back;
      book_back = book_back;
      no_bytes = no_bytes;
      one_list = one_list;
      write_never_8 = write_never_8;
      read_never_8 = read_never_8;
      most_reached = most_reached;
      write_halves = write_halves;
      read_halves = read_halves;
    }
