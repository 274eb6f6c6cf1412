-- What is refused of a book, and of rows, is what the table says: row by row, and where none applies.
-- Assumes nothing.
use Rattle.std.specs.Prelude as Std
use Rattle.std.specs.Prelude.{Ok, Err}
use Prim.Native.Nat.{ℕ, suc, ◌*◌, ◌≤◌, ◌<◌}
use mathlib.Core.Path.{◌≡◌, ◌∙◌, refl, sym, ap}
use mathlib.Core.List.{List, [], ◌∷◌, append-nil}
use mathlib.Core.Logic.{◌⊎◌, inl, inr, ⊎_elim}
use native.Mathlib.Omega.{arith}
use lib.Dec.{leb, eqb}
use lib.ListN.{length, drop}
use borrow.Author.Tests.{le-leb, lt-leb, leb-true, leb-false, eq-eqb, ne_eqb, eqb-true, eqb-false}
use Rattle.basis.specs.Refusal.{Examined, nothing, unless, first}
use Rattle.basis.specs.declared.Refusal.TheVariants.{Damaged, TooShort, BookDamaged, BookCount, BookRow}
use Rattle.basis.specs.Rows.{Some, Refused, Follows}
use Rattle.basis.specs.Writing.{room_refusal}
use Rattle.basis.proofs.Rows.{refused_is, then_row}
use Rattle.basis.proofs.Tests.{cases}
use Rattle.basis.proofs.Searches.{first_fail_most}
use Rattle.basis.proofs.Writing.{room_nothing, room_short}
use Rattle.groups.specs.Encode.{encode_all}
use Rattle.groups.specs.Decode.{Bytes, decode}
use Rattle.groups.specs.Numbers.{damage, value_of}
use Rattle.groups.specs.Rows.{Starts}
use Rattle.groups.specs.Rows as Table
use Rattle.groups.proofs.Rows as Groups-told
use Rattle.groups.proofs.Damaged.{damaged_unread, unread_damaged}
use Rattle.groups.proofs.Decode.{decoded, decode_within}
use Rattle.groups.proofs.Numbers.{number_front}
use Rattle.groups.proofs.Reading.{damage_here}
use Rattle.book.specs.Book.{rows_most, row_count, rows_of, book_of, in_full, good_at, first_bad, bad_row, count_refusal}
use Rattle.book.specs.Read.{count_in, numbers_due, rows_in, book_damage, damage_in, book_refusal, read_refusal}
use Rattle.book.specs.Write.{whole_book, write_refusal}
use Rattle.book.specs.Rows.{AllStand, FirstBad, Holds, Row, Stands, ReadRow, Reads, WriteRow, Writes, Told}
use Rattle.book.proofs.Good.{all_good, first_bad_lem, before_stand, bad_found}
use Rattle.book.proofs.Held.{starts_count, columns_rows, rows_long, full_bytes, held_count, held_undamaged, held_rows}
use Rattle.book.proofs.Narrow.{turned_narrow}

-- ---- 10 of a count, 11 of rows

-- what is refused where the count is not, and where it is
pub past_count : (n : ℕ) (rest : Examined) → n ≤ rows_most → first (count_refusal n) rest ≡ rest
past_count n rest l = rw (le-leb n rows_most l) refl

pub many : (n : ℕ) (rest : Examined) → rows_most < n → first (count_refusal n) rest ≡ Err (BookCount n)
many n rest l = rw (lt-leb n rows_most l) refl

-- a row that is bad, and that none is
bad_refused : (n : ℕ) (rows : List ℕ) (r : ℕ) → FirstBad n rows r → bad_row n (first_bad n rows) ≡ Err (BookRow r)
bad_refused n rows r b = rw (first_bad_lem n rows r b, ne_eqb r n (λ e. omega (arith, b.within))) refl

none_bad : (n : ℕ) (rows : List ℕ) → AllStand n rows → bad_row n (first_bad n rows) ≡ nothing
none_bad n rows s = rw (all_good n rows s, eq-eqb n n refl) refl

every_row : (n : ℕ) (rows : List ℕ) → AllStand n rows ⊎ ((r : ℕ) × FirstBad n rows r)
unfolding first_bad
every_row n rows =
    cases (eqb (first_bad n rows) n) (λ t. let e = eqb-true (first_bad n rows) n t in inl (rw e at (before_stand n rows)))
    (λ t. let e = eqb-false (first_bad n rows) n t in inr (first_bad n rows, bad_found n rows (omega (arith, first_fail_most (good_at rows) n 0))))

-- ---- Reading

-- 9 of a refusal of the bytes
damage_is : {examined : Examined} {m p : ℕ} → Refused examined m p → book_damage examined ≡ Err (BookDamaged p)
damage_is r = rw (r.is, r.place_is) refl

module _ (book : List ℕ) where
  -- the parts of what is refused, one after the other
  too_many : (n : ℕ) (rest : List ℕ) → Starts (in_full book) (n ∷ []) rest → rows_most < n → book_refusal book ≡ Err (BookCount n)
  unfolding book_refusal
  too_many n rest s l = rw (starts_count book rest n s) (many n _ l)

  few_passes : count_in book ≤ rows_most → book_refusal book ≡ first (damage_in book) (bad_row (count_in book) (first_bad (count_in book) (rows_in book)))
  unfolding book_refusal
  few_passes l = past_count (count_in book) _ l

  damaged_refused : (p : ℕ) → count_in book ≤ rows_most → damage_in book ≡ Err (BookDamaged p) → book_refusal book ≡ Err (BookDamaged p)
  damaged_refused p l e = few_passes l ∙ rw e refl

  pub no_count : Table.Damaged (in_full book) → book_refusal book ≡ Err (BookDamaged 0)
  unfolding damage_in
  no_count d =
      let u = damaged_unread (in_full book) d in
      let z : count_in book ≡ 0 = unfold count_in in unfold value_of in rw u in
      let f : damage (numbers_due book) 0 (in_full book) ≡ Err (Damaged 0) = unfold numbers_due in damage_here (25 * count_in book) 0 (in_full book) u in
      damaged_refused 0 (omega (arith, z)) (damage_is (refused_is (Damaged 0) f))

  damaged : (n : ℕ) (rest : List ℕ) → Starts (in_full book) (n ∷ []) rest → n ≤ rows_most → (w : Bytes book) (m p : ℕ) → Table.Row (suc (25 * n)) (in_full book) m p → book_refusal book ≡ Err (BookDamaged p)
  unfolding damage_in numbers_due
  damaged n rest s l w m p r =
      let c = starts_count book rest n s in
      damaged_refused p (omega (arith, c)) (rw c (damage_is (((Groups-told.told).told (suc (25 * n)) (in_full book) (full_bytes book w)).row m p r)))

  -- of the book of some rows: 11
  held_refused : (n : ℕ) (rows : List ℕ) → Holds book n rows → book_refusal book ≡ bad_row n (first_bad n rows)
  unfolding damage_in
  held_refused n rows h =
      let c = held_count book n rows h in
      few_passes (omega (arith, c, h.few)) ∙ rw (c, held_rows book n rows h, held_undamaged book n rows h) refl

book_row : (book : List ℕ) → Bytes book → (n p : ℕ) → Row book n p → Refused (book_refusal book) n p
book_row book w n p (Row.no_count d) = refused_is (BookDamaged 0) (no_count book d)
book_row book w n p (Row.count c rest s l) = refused_is (BookCount c) (too_many book c rest s l)
book_row book w n p (Row.damaged c rest s l m q r) = refused_is (BookDamaged q) (damaged book c rest s l w m q r)
book_row book w n p (Row.row_bad c rows h r b) = refused_is (BookRow r) (held_refused book c rows h ∙ bad_refused c rows r b)

pub book_none : (book : List ℕ) (n : ℕ) (rows : List ℕ) → Stands book n rows → book_refusal book ≡ nothing
book_none book n rows a = held_refused book n rows a.holds ∙ none_bad n rows a.stand

-- a count, where one stands
started : (book : List ℕ) → Bytes book → (v k : ℕ) → decode book ≡ Std.Some (v, k) → Starts book (v ∷ []) (drop k book)
unfolding encode_all
started book w v k e = record { is = rw append-nil (number_front v k book w e); narrow = ((decode_within book v k e).value, tt) }

-- the book of the numbers that stand in it
holding : (book : List ℕ) (n : ℕ) (ns : List ℕ) → n ≤ rows_most → count_in book ≡ n → Table.Holds (suc (25 * n)) (in_full book) ns → Holds book n (rows_of n (drop 1 ns))
holding book n [] l c h = absurd (omega (arith, h.long))
holding book n (m ∷ ns) l c h =
    let e : length ns ≡ 25 * n = omega (arith, h.long) in
    let f : m ≡ n = sym (counted h) ∙ c in
    record { is = h.is ∙ same f e; few = l; long = rows_long n ns; narrow = unfold rows_of in turned_narrow n 25 ns h.narrow.1 }
  where
    counted : Table.Holds (suc (25 * n)) (in_full book) (m ∷ ns) → count_in book ≡ m
    counted h = starts_count book (encode_all ns) m (record { is = h.is ∙ unfold encode_all in rw append-nil; narrow = (h.narrow.0, tt) })

    same : m ≡ n → length ns ≡ 25 * n → encode_all (m ∷ ns) ≡ book_of n (rows_of n ns)
    same f e = unfold book_of in rw (f, columns_rows n ns e)

abbrev Book_every : List ℕ → Type 0
Book_every book = ((n : ℕ) × ((rows : List ℕ) × Stands book n rows)) ⊎ Some (Row book)

module _ (book : List ℕ) (w : Bytes book) where
  -- of the book of some rows
  held_every : (n : ℕ) (rows : List ℕ) → Holds book n rows → Book_every book
  held_every n rows h = ⊎_elim (λ s. inl (n, (rows, record { holds = h; stand = s }))) (λ b. inr (11, (b.0, Row.row_bad n rows h b.0 b.1))) (every_row n rows)

  counted_every : (n : ℕ) (rest : List ℕ) → Starts (in_full book) (n ∷ []) rest → Book_every book
  counted_every n rest s =
      cases (leb n rows_most)
      (λ t.
      let l = leb-true n rows_most t in
      ⊎_elim (λ h. held_every n (rows_of n (drop 1 h.0)) (holding book n h.0 l (starts_count book rest n s) h.1))
      (λ r. inr (9, (r.1.0, Row.damaged n rest s l r.0 r.1.0 r.1.1)))
      ((Groups-told.told).told (suc (25 * n)) (in_full book) (full_bytes book w)).every)
      (λ t. inr (10, (n, Row.count n rest s (leb-false n rows_most t))))

  book_every : Book_every book
  book_every =
      decoded (decode (in_full book)) (λ v k e. counted_every v (drop k (in_full book)) (started (in_full book) (full_bytes book w) v k e))
      (λ e. inr (9, (0, Row.no_count (unread_damaged (in_full book) e))))

  pub book_follows : Follows (book_refusal book) (Row book) ((n : ℕ) × ((rows : List ℕ) × Stands book n rows))
  book_follows = record { row = book_row book w; none = λ a. book_none book a.0 a.1.0 a.1.1; every = book_every }

-- and of the rows lent: 8
module _ (book out : List ℕ) where
  after_book : (n : ℕ) (rows : List ℕ) → Stands book n rows → read_refusal book out ≡ unless (leb n (row_count out)) (TooShort n) nothing
  unfolding read_refusal
  after_book n rows a = rw (book_none book n rows a, held_count book n rows a.holds) refl

  read_row : Bytes book → (n p : ℕ) → ReadRow book out n p → Refused (read_refusal book out) n p
  unfolding read_refusal
  read_row w n p (ReadRow.of_book m q r) = then_row (book_follows book w) _ m q r
  read_row w n p (ReadRow.short c rows a l) = refused_is (TooShort c) (after_book c rows a ∙ rw (lt-leb c (row_count out) l) refl)

  pub read_none : (n : ℕ) (rows : List ℕ) → Reads book out n rows → read_refusal book out ≡ nothing
  read_none n rows a = after_book n rows a.stands ∙ rw (le-leb n (row_count out) a.room) refl

  read_every : Bytes book → ((n : ℕ) × ((rows : List ℕ) × Reads book out n rows)) ⊎ Some (ReadRow book out)
  read_every w =
      ⊎_elim
      (λ a.
      cases (leb (a.0) (row_count out)) (λ t. inl (a.0, (a.1.0, record { stands = a.1.1; room = leb-true (a.0) (row_count out) t })))
      (λ t. inr (8, (a.0, ReadRow.short (a.0) (a.1.0) (a.1.1) (leb-false (a.0) (row_count out) t)))))
      (λ r. inr (r.0, (r.1.0, ReadRow.of_book (r.0) (r.1.0) (r.1.1)))) (book_follows book w).every

-- ---- Writing

module _ (rows out : List ℕ) where
  rows_refused : row_count rows ≤ rows_most → write_refusal rows out ≡ first (bad_row (row_count rows) (first_bad (row_count rows) rows)) (room_refusal (whole_book rows) out)
  unfolding write_refusal
  rows_refused l = past_count (row_count rows) _ l

  rows_stand : row_count rows ≤ rows_most → AllStand (row_count rows) rows → write_refusal rows out ≡ room_refusal (whole_book rows) out
  rows_stand l s = rows_refused l ∙ ap (λ (e : Examined). first e (room_refusal (whole_book rows) out)) (none_bad (row_count rows) rows s)

  write_row : (n p : ℕ) → WriteRow rows out n p → Refused (write_refusal rows out) n p
  unfolding write_refusal
  write_row n p (WriteRow.count l) = refused_is (BookCount (row_count rows)) (many (row_count rows) _ l)
  write_row n p (WriteRow.row_bad l r b) =
      refused_is (BookRow r) (rows_refused l ∙ ap (λ (e : Examined). first e (room_refusal (whole_book rows) out)) (bad_refused (row_count rows) rows r b))
  write_row n p (WriteRow.short l s k) = refused_is (TooShort (length (whole_book rows))) (rows_stand l s ∙ room_short (whole_book rows) out k)

  pub write_none : Writes rows out → write_refusal rows out ≡ nothing
  write_none a = rows_stand a.few a.stand ∙ room_nothing (whole_book rows) out a.room

  write_every : Writes rows out ⊎ Some (WriteRow rows out)
  write_every =
      cases (leb (row_count rows) rows_most)
      (λ t.
      let l = leb-true (row_count rows) rows_most t in
      ⊎_elim
      (λ s.
      cases (leb (length (whole_book rows)) (length out)) (λ u. inl (record { few = l; stand = s; room = leb-true (length (whole_book rows)) (length out) u }))
      (λ u. inr (8, (length (whole_book rows), WriteRow.short l s (leb-false (length (whole_book rows)) (length out) u)))))
      (λ b. inr (11, (b.0, WriteRow.row_bad l b.0 b.1))) (every_row (row_count rows) rows))
      (λ t. inr (10, (row_count rows, WriteRow.count (leb-false (row_count rows) rows_most t))))

pub told : Told
told =
    record {
      book = book_follows;
      reading = λ book out w. record { row = read_row book out w; none = λ a. read_none book out a.0 a.1.0 a.1.1; every = read_every book out w };
      writing = λ rows out. record { row = write_row rows out; none = write_none rows out; every = write_every rows out };
    }
