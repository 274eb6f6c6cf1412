-- What reading and writing answer and leave where something is refused, and where nothing is.
-- Assumes nothing.
use Prim.Native.Nat.{ℕ, ◌*◌}
use mathlib.Core.Path.{◌≡◌, refl}
use mathlib.Core.List.{List, ◌++◌}
use lib.ListN.{length, drop}
use Rattle.std.specs.Prelude.{Ok, Err}
use Rattle.basis.specs.Refusal.{nothing}
use Rattle.basis.specs.declared.Refusal.{Refusal}
use Rattle.book.specs.Read.{count_in, columns_in, rows_in, read_refusal, rows_read, rows_left}
use Rattle.book.specs.Write.{whole_book, write_refusal, book_written, book_left}
use Rattle.book.proofs.Held.{rows_long}

module _ (book out : List ℕ) where
  pub read_refused : {r : Refusal} → read_refusal book out ≡ Err r → (rows_read book out ≡ Err r) × (rows_left book out ≡ out)
  unfolding rows_read rows_left
  read_refused e = (rw e refl, rw e refl)

  pub read_done : read_refusal book out ≡ nothing → (rows_read book out ≡ Ok (count_in book)) × (rows_left book out ≡ rows_in book ++ drop (25 * count_in book) out)
  unfolding rows_read rows_left rows_in
  read_done e = (rw e refl, rw (e, rows_long (count_in book) (columns_in book)) refl)

module _ (rows out : List ℕ) where
  pub write_refused : {r : Refusal} → write_refusal rows out ≡ Err r → (book_written rows out ≡ Err r) × (book_left rows out ≡ out)
  unfolding book_written book_left
  write_refused e = (rw e refl, rw e refl)

  pub write_done : write_refusal rows out ≡ nothing → (book_written rows out ≡ Ok (length (whole_book rows))) × (book_left rows out ≡ whole_book rows ++ drop (length (whole_book rows)) out)
  unfolding book_written book_left
  write_done e = (rw e refl, rw e refl)
