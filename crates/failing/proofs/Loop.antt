-- What the loop over a book's rows is told: the rows that it passed, where the next one stands, and what it has found.
-- Assumes nothing.
use Rattle.std.specs.Prelude.{None, Some}
use Prim.Native.Nat.{ℕ, ◌+◌, ◌≤◌, ◌<◌}
use mathlib.Core.Path.{◌≡◌, ◌∙◌, sym, ap}
use mathlib.Core.Bool.{Bool, true, false}
use mathlib.Core.List.{List}
use mathlib.Core.Logic.{⊎_elim}
use native.Mathlib.Nat.{eq-or-lt_of_le}
use native.Mathlib.Numerals.{add-one}
use native.Mathlib.Omega.{arith}
use Rattle.basis.specs.Refusal.{nothing}
use Rattle.job.specs.Job.{job_of}
use Rattle.job.specs.Rows.{Stands}
use Rattle.section5.specs.Section5.{judgement}
use Rattle.book.specs.Book.{row}
use Rattle.book.specs.Read.{count_in, rows_in, book_refusal}
use Rattle.bookfile.specs.Places.{row_at, moved, moved_by, row_after}
use Rattle.bookfile.specs.declared.layout.Layout.{Layout}
use Rattle.bookfile.specs.Layout.{layout_of}
use Rattle.bookfile.proofs.Reading.{row_is, row_stands}
use Rattle.failing.specs.Failing.{failed, place_in}
use Rattle.failing.proofs.Place.{Passed, judged_at, found, nowhere}

-- of the n rows of a book that stands the first r have no failed check, and the next is at these places
pub record Before (sheet book : List ℕ) (n : ℕ) (at : List ℕ) (r : ℕ) : Type 0 where
  pub stands : book_refusal book ≡ nothing
  pub rows : n ≡ count_in book
  pub count : r ≤ n
  pub here : at ≡ moved_by book ((layout_of book).places) r
  pub passed : Passed sheet book r

pub before_none : (sheet book : List ℕ) {layout : Layout} → book_refusal book ≡ nothing → layout ≡ layout_of book → Before sheet book layout.count layout.places 0
unfolding layout_of moved_by
before_none sheet book z e =
    record { stands = z; rows = ap (λ (l : Layout). l.count) e; count = omega arith; here = ap (λ (l : Layout). l.places) e; passed = λ k h. absurd (omega arith) }

module _ (sheet book : List ℕ) (n : ℕ) (at : List ℕ) (r : ℕ) (b : Before sheet book n at r) where
  -- the row that is read is the book's
  module _ (h : r < n) {numbers : List ℕ} (f : numbers ≡ row_at book at) where
    read : numbers ≡ row (rows_in book) r
    unfolding row_after
    read = f ∙ ap (row_at book) b.here ∙ row_is book b.stands r (omega (arith, h, b.rows))

    pub next_stands : Stands (job_of numbers)
    next_stands = rw read (row_stands book b.stands r (omega (arith, h, b.rows)))

    -- whether it fails
    module _ {fails : Bool} (g : fails ≡ failed (judgement (job_of numbers) sheet)) where
      now : fails ≡ failed (judged_at sheet book r)
      now = g ∙ ap (λ n. failed (judgement (job_of n) sheet)) read

      pub before_next : {next : List ℕ} → next ≡ moved book at → fails ≡ false → Before sheet book n next (r + 1)
      unfolding moved_by
      before_next m p =
          record {
            stands = b.stands;
            rows = b.rows;
            count = omega (arith, h);
            here = rw add-one (m ∙ ap (moved book) b.here);
            passed = λ k l. ⊎_elim (λ q. let y : k ≡ r = omega arith in rw y (sym now ∙ p)) (λ q. b.passed k (omega arith)) (eq-or-lt_of_le l);
          }

      pub first_found : fails ≡ true → Some r ≡ place_in sheet book
      first_found p = sym (found sheet book r (omega (arith, h, b.rows)) b.passed (sym now ∙ p))

  pub none_found : r ≡ n → None ≡ place_in sheet book
  none_found m = sym (nowhere sheet book (rw (m ∙ b.rows) at b.passed))
