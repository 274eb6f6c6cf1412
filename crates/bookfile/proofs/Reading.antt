-- Laws of a book laid out and read: its count and where its columns start, the rows at their places, and what is refused, by its ways.
-- Assumes nothing.
use Rattle.std.specs.Prelude.{Some, Result, Ok, Err, ok_or}
use Prim.Native.Nat.{ℕ, ◌*◌, ◌≤◌, ◌<◌}
use mathlib.Core.Path.{◌≡◌, ◌∙◌, refl, sym, ap}
use mathlib.Core.List.{List, [], ◌∷◌}
use native.Mathlib.Nat.{zero-add, mul-zero}
use native.Mathlib.Omega.{arith}
use lib.Dec.{leb, eqb, leb→le, eqb→eq}
use lib.ListN.{length, drop, get_or}
use Rattle.basis.specs.Refusal.{Examined, nothing, first}
use Rattle.basis.specs.declared.Refusal.{Refusal}
use Rattle.basis.specs.declared.Refusal.TheVariants.{BookDamaged, BookCount, BookRow}
use Rattle.basis.proofs.Refusals.{first_first, first_nothing, unless_pass}
use Rattle.basis.proofs.Searches.{first_fail_same}
use Rattle.groups.specs.Decode.{decode}
use Rattle.groups.specs.Numbers.{extra, damage, values, value_of, bytes_of}
use Rattle.groups.proofs.Decode.{decoded, decode_within}
use Rattle.groups.proofs.Damaged.{unread_damaged}
use Rattle.groups.proofs.Reading.{damage_next, values_next}
use Rattle.jobfile.specs.Kind.{scaffold, Stands}
use Rattle.book.specs.Book.{rows_most, rows_of, in_full, row, good, good_at, first_bad, bad_row, count_refusal}
use Rattle.book.specs.Read.{count_in, numbers_due, columns_in, rows_in, book_damage, damage_in, book_refusal}
use Rattle.book.proofs.Columns.{turned_part}
use Rattle.book.proofs.Rows.{no_count}
use Rattle.book.proofs.Good.{before_stand}
use Rattle.book.proofs.Held.{rows_long}
use Rattle.bookfile.specs.Places.{Sound, starts, row_after, good_after, first_bad_at}
use Rattle.bookfile.specs.Layout.{counted, laid_out, layout_of}
use Rattle.bookfile.proofs.Numbers.{place_none, row_placed, damage_last, undamaged_sound}
use Rattle.bookfile.proofs.Steps.{starts_at}

-- what is read of a book whose count is n, in k bytes: the same of no bytes at all, and of others
pub record Counted (book : List ℕ) (n k : ℕ) : Type 0 where
  pub count : count_in book ≡ n
  pub ends : bytes_of (decode book) ≡ k
  pub within : k ≤ length book
  pub columns : columns_in book ≡ values (25 * n) (drop k book)
  pub refused : damage (numbers_due book) 0 (in_full book) ≡ damage (25 * n) k (drop k book)

counted_empty : Counted [] 0 0
unfolding count_in columns_in numbers_due in_full damage extra values value_of bytes_of decode
counted_empty = record { count = refl; ends = refl; within = omega arith; columns = refl; refused = refl }

counted_some : (b : ℕ) (rest : List ℕ) (n k : ℕ) → decode (b ∷ rest) ≡ Some (n, k) → Counted (b ∷ rest) n k
unfolding count_in columns_in numbers_due in_full value_of bytes_of
counted_some b rest n k e =
    record {
      count = rw e refl;
      ends = rw e refl;
      within = (decode_within (b ∷ rest) n k e).ends;
      columns = rw (e, values_next (25 * n) n k (b ∷ rest) e) refl;
      refused = rw (e, damage_next (25 * n) 0 n k (b ∷ rest) e, zero-add) refl;
    }

pub counted_is : (book : List ℕ) (n k : ℕ) → counted book ≡ Ok (n, k) → Counted book n k
counted_is [] n k e = let p : ◌≡◌ {A = ℕ × ℕ} (0, 0) (n, k) = cc (e) in rw (ap (λ q. q.0) (sym p), ap (λ q. q.1) (sym p)) counted_empty
counted_is (b ∷ rest) n k e = decoded (decode (b ∷ rest)) (λ v m f. go v m f (rw f at e)) (λ f. absurd (cc (rw f at e)))
  where
    go : (v m : ℕ) → decode (b ∷ rest) ≡ Some (v, m) → ok_or {T = ℕ × ℕ} (Some (v, m)) (BookDamaged 0) ≡ Ok (n, k) → Counted (b ∷ rest) n k
    go v m f g = let p : ◌≡◌ {A = ℕ × ℕ} (v, m) (n, k) = cc (g) in counted_some b rest n k (f ∙ ap Some p)

-- where no count stands
pub uncounted : (book : List ℕ) {r : Refusal} → counted book ≡ Err r → book_refusal book ≡ Err r
unfolding in_full
uncounted [] e = absurd (cc (e))
uncounted (b ∷ rest) e = decoded (decode (b ∷ rest)) (λ v m f. absurd (cc (rw f at e))) (λ f. let q : BookDamaged 0 ≡ _ = cc (rw f at e) in no_count (b ∷ rest) (unread_damaged (b ∷ rest) f) ∙ ap Err q)

-- ---- Laying out

module _ (book : List ℕ) (n k : ℕ) (e : counted book ≡ Ok (n, k)) where
  abbrev c : Counted book n k
  c = counted_is book n k e

  pub within : k ≤ length book
  within = c.within

  -- what is refused of it, by what is told of its count
  refusal_is : book_refusal book ≡ first (count_refusal n) (first (book_damage (damage (25 * n) k (drop k book))) (bad_row n (first_bad n (rows_in book))))
  unfolding book_refusal damage_in
  refusal_is = rw (c.count, c.refused) refl

  layout_is : layout_of book ≡ record { count = n; places = starts book k n }
  unfolding layout_of
  layout_is = rw (c.count, c.ends) refl

  rows_are : rows_of n (values (25 * n) (drop k book)) ≡ rows_in book
  unfolding rows_in
  rows_are = rw (c.count, c.columns) refl

  -- the row at the places of its columns
  at : (r : ℕ) → r < n → row_after book (starts book k n) r ≡ row (rows_in book) r
  unfolding row rows_of
  at r h = rw (← rows_are) (row_placed book k n r h ∙ sym (turned_part n 25 _ r h))

  bad_is : first_bad_at book (starts book k n) n ≡ first_bad n (rows_in book)
  unfolding first_bad_at first_bad good_after good_at
  bad_is = first_fail_same _ _ n 0 (λ r a b. ap good (at r (omega arith)))

  pub laid : laid_out book n k ≡ first (book_refusal book) (Ok (layout_of book))
  unfolding laid_out
  laid = rw (refusal_is, layout_is, bad_is) (simp first_first)

-- the damage is that of the last column, at its place
pub damage_read : (book : List ℕ) (k n : ℕ) → damage n (get_or (starts book k n) 24 0) (drop (get_or (starts book k n) 24 0) book) ≡ damage (25 * n) k (drop k book)
damage_read book k n = rw (starts_at book k n 24 (omega arith)) (damage_last book k n)

-- ---- Reading

undamaged : (e : Examined) → book_damage e ≡ nothing → e ≡ nothing
undamaged (Ok none) f = refl
undamaged (Err r) f = absurd (cc (f))

-- the first column starts after the count
pub start_is : (book : List ℕ) → get_or (starts book (bytes_of (decode book)) (count_in book)) 0 0 ≡ bytes_of (decode book)
start_is book = starts_at book (bytes_of (decode book)) (count_in book) 0 (omega arith) ∙ rw mul-zero (sym (place_none book (bytes_of (decode book))))

pub rows_in_long : (book : List ℕ) → length (rows_in book) ≡ 25 * count_in book
unfolding rows_in
rows_in_long book = rows_long (count_in book) (columns_in book)

-- of a book of which nothing is refused
module _ (book : List ℕ) (z : book_refusal book ≡ nothing) where
  counted_so : counted book ≡ Ok (count_in book, bytes_of (decode book))
  counted_so = go (counted book) refl
    where
      go : (a : Result (ℕ × ℕ) Refusal) → counted book ≡ a → a ≡ Ok (count_in book, bytes_of (decode book))
      go (Ok p) e = let c = counted_is book p.0 p.1 e in rw (c.count, c.ends) refl
      go (Err r) e = absurd (cc (uncounted book e, z))

  -- neither 10 nor 9 nor 11
  parts : (count_refusal (count_in book) ≡ nothing) × ((book_damage (damage (25 * count_in book) (bytes_of (decode book)) (drop (bytes_of (decode book)) book)) ≡ nothing) × (bad_row (count_in book) (first_bad (count_in book) (rows_in book)) ≡ nothing))
  parts = let a = first_nothing _ _ (sym (refusal_is book (count_in book) (bytes_of (decode book)) counted_so) ∙ z) in (a.0, first_nothing _ _ a.1)

  pub sound : Sound book (bytes_of (decode book)) (25 * count_in book)
  sound = undamaged_sound book (bytes_of (decode book)) (25 * count_in book) (undamaged _ parts.1.0)

  pub put_rows : rows_of (count_in book) (values (25 * count_in book) (drop (bytes_of (decode book)) book)) ≡ rows_in book
  put_rows = rows_are book (count_in book) (bytes_of (decode book)) counted_so

  -- the row at its places is a row of the book that obeys 01
  pub row_is : (r : ℕ) → r < count_in book → row_after book ((layout_of book).places) r ≡ row (rows_in book) r
  unfolding layout_of
  row_is r h = at book (count_in book) (bytes_of (decode book)) counted_so r h

  pub row_stands : (r : ℕ) → r < count_in book → Stands scaffold (row (rows_in book) r)
  row_stands r h =
      let n = count_in book in
      let bad = first_bad n (rows_in book) in
      let e = eqb→eq bad n (unless_pass (eqb bad n) (BookRow bad) nothing tt parts.1.1).0 in
      before_stand n (rows_in book) r (omega (arith, e))

  pub few : count_in book ≤ rows_most
  few = leb→le (count_in book) rows_most (unless_pass (leb (count_in book) rows_most) (BookCount (count_in book)) nothing tt parts.0).0

-- what the reader is told
pub ruleset rows_laid = (start_is, rows_in_long, sound, put_rows)
