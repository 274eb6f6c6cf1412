-- The lowest bad row is that of the rows from `r` on. Assumes nothing.
use Prim.Native.Nat.{◌-◌}
use mathlib.Core.Path.{◌≡◌}
use lib.ListN.{length}
use Rattle.basis.specs.Search.{first_fail}
use Rattle.book.specs.Book.{good_at, first_bad}
use Rattle.bookfile.specs.Pieces.{flat}
use Rattle.bookfile.proofs.rows.examine_rows.Given as goal

abbrev pub invariant-loop-r : goal.invariant-loop-r
invariant-loop-r l = first_bad (length l.rows) (flat l.rows) ≡ first_fail (good_at (flat l.rows)) l.r (length l.rows - l.r)
