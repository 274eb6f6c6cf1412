-- The first rows are good, and the next stands at the places. Assumes nothing.
use Rattle.bookfile.proofs.Steps.{Scan}
use Rattle.bookfile.proofs.places.Columns.examine.Given as goal

abbrev pub invariant-loop-row : goal.invariant-loop-row
invariant-loop-row l = Scan l.self.book.now l.initial.at l.at l.self.count l.row
