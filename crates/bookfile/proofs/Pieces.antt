-- Bytes written piece by piece, each into what is left of the buffer after the one before.
-- Assumes nothing.
use Prim.Native.Nat.{ℕ, suc, ◌+◌, ◌-◌, ◌*◌, ◌≤◌, ◌<◌}
use mathlib.Core.Path.{◌≡◌, ◌∙◌, refl, sym, ap}
use mathlib.Core.List.{List, [], ◌++◌, append-nil}
use native.Mathlib.Numerals.{add-one}
use native.Mathlib.Omega.{arith}
use lib.ListN.{length, take, drop, get_or, length-append, length-drop}
use lib.Seq.{take-append_seam, drop-append_seam}
use borrow.Rule.Slice.PartMut.{put_mid}
use Rattle.groups.specs.Encode.{encode, encode_all}
use Rattle.groups.proofs.Front.{front, front_length, front_part, front_next, front_all}
use Rattle.book.specs.Columns.{joined, across, turned}
use Rattle.book.specs.Book.{columns, book_of}
use Rattle.bookfile.specs.Pieces.{entry_bytes, column_bytes}
use Rattle.book.proofs.Lengths.{all_series, all_joined}

-- the pieces from i on, one more
joined_more : (g : ℕ → List ℕ) (m i : ℕ) → i < m → joined g i (m - i) ≡ g i ++ joined g (i + 1) (m - (i + 1))
unfolding joined
joined_more g m i h = let e : m - i ≡ suc (m - (i + 1)) = omega arith in rw (e, add-one) refl

joined_none : (g : ℕ → List ℕ) (m i : ℕ) → m ≤ i → joined g i (m - i) ≡ []
unfolding joined
joined_none g m i h = let e : m - i ≡ 0 = omega arith in rw e refl

-- the first i of m pieces stand at the front of the buffer, and take its first bytes up to a place
pub record Wrote (g : ℕ → List ℕ) (before out : List ℕ) (m i at : ℕ) : Type 0 where
  pub count : i ≤ m
  pub left : drop at (joined g 0 m) ≡ joined g i (m - i)
  pub within : at ≤ length (joined g 0 m)
  pub written : out ≡ front before (joined g 0 m) at

module _ (g : ℕ → List ℕ) (before out : List ℕ) (m i at : ℕ) (w : Wrote g before out m i at) (h : length (joined g 0 m) ≤ length before) where
  pub wrote_length : length out ≡ length before
  wrote_length = rw w.written (front_length before (joined g 0 m) at (omega (arith, w.within)) w.within)

  pub wrote_room : i < m → at + length (g i) ≤ length (joined g 0 m)
  wrote_room k = (front_next (joined g 0 m) (g i) _ at w.within (w.left ∙ joined_more g m i k)).1

  pub wrote_next : i < m
      → Wrote g before (put_mid at (length out - at) out (g i ++ drop (length (g i)) (take (length out - at) (drop at out)))) m (i + 1) (at + length (g i))
  wrote_next k =
      let e = w.left ∙ joined_more g m i k in
      record {
        count = omega arith;
        left = (front_next (joined g 0 m) (g i) _ at w.within e).0;
        within = wrote_room k;
        written = front_part before (joined g 0 m) (g i) _ out at w.within h w.written e;
      }

  -- the same after a call that wrote the piece and gave its length
  pub wrote_piece : {p last : List ℕ} {k : ℕ} → p ≡ g i → k ≡ length p → last ≡ p ++ drop (length p) (take (length out - at) (drop at out)) → i < m
      → Wrote g before (put_mid at (length out - at) out last) m (i + 1) (at + k)
  wrote_piece {p} {last} {k} e f d h = rw (d, f, e) (wrote_next h)

  pub wrote_all : m ≤ i → at ≡ length (joined g 0 m)
  wrote_all k = let z = ap length (w.left ∙ joined_none g m i k) in omega (arith, length-drop at (joined g 0 m), z, w.within)

  pub wrote_end : m ≤ i → out ≡ joined g 0 m ++ drop (length (joined g 0 m)) before
  wrote_end k = w.written ∙ front_all before (joined g 0 m) at (wrote_all k)

-- a column's bytes are those of its numbers, and the bytes of all columns those of each
pub column_pieces : (n : ℕ) (rows : List ℕ) (c : ℕ) → column_bytes n rows c ≡ joined (entry_bytes rows c) 0 n
unfolding column_bytes entry_bytes across
column_pieces n rows c = all_series (λ r. get_or rows (25 * r + c) 0) n 0

pub columns_pieces : (n : ℕ) (rows : List ℕ) → encode_all (columns n rows) ≡ joined (column_bytes n rows) 0 25
unfolding columns turned column_bytes
columns_pieces n rows = all_joined (across 25 n rows) 25 0

-- the book's length, and the book written in its two parts
pub book_length : (n : ℕ) (rows : List ℕ) → length (book_of n rows) ≡ length (encode n) + length (encode_all (columns n rows))
unfolding book_of encode_all
book_length n rows = length-append (encode n) (encode_all (columns n rows))

-- the count is written, and then the columns into what is left
pub book_written_lem : (n : ℕ) (rows d o last : List ℕ) (k : ℕ) → length (book_of n rows) ≤ length d → k ≡ length (encode n) → o ≡ encode n ++ drop (length (encode n)) d
    → last ≡ encode_all (columns n rows) ++ drop (length (encode_all (columns n rows))) (take (length o - k) (drop k o))
    → put_mid k (length o - k) o last ≡ book_of n rows ++ drop (length (book_of n rows)) d
unfolding book_of encode_all
book_written_lem n rows d o last k h e f g =
    let a = encode_all (columns n rows) in
    let s = encode n ++ a in
    let l : length s ≡ length (encode n) + length a = length-append (encode n) a in
    let t : take (length (encode n)) s ≡ encode n = take-append_seam (encode n) a in
    let u : o ≡ front d s (length (encode n)) = f ∙ ap (λ (x : List ℕ). x ++ drop (length (encode n)) d) (sym t) in
    let v : drop (length (encode n)) s ≡ a ++ [] = drop-append_seam (encode n) a ∙ sym (append-nil a) in
    rw (g, e) (front_part d s a [] o (length (encode n)) (omega (arith, l)) h u v ∙ front_all d s (length (encode n) + length a) (sym l))

pub kept : (e d : List ℕ) → length e ≤ length d → length (e ++ drop (length e) d) ≡ length d
kept e d h = rw (length-append, length-drop) (omega arith)
