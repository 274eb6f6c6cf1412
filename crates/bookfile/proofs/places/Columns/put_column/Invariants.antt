-- The first rows have their number. Assumes nothing.
use mathlib.Core.Path.{◌≡◌}
use lib.ListN.{drop}
use Rattle.groups.specs.Numbers.{values}
use Rattle.bookfile.specs.Places.{place_of, PutColumn}
use Rattle.bookfile.proofs.places.Columns.put_column.Given as goal

abbrev pub invariant-loop-row : goal.invariant-loop-row
invariant-loop-row l = (l.place ≡ place_of l.self.book.now l.at l.row) × PutColumn l.row l.c (values l.self.count (drop l.at l.self.book.now)) l.initial.out l.out
