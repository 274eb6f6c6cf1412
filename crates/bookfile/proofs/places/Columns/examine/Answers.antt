-- `Columns::examine` meets its contract. Assumes nothing.
use borrow.Author.Rules.{rules}
use Rattle.bookfile.proofs.Steps.{scan_none}
use Rattle.bookfile.proofs.places.Columns.examine.Goals as goal

pub loop-row-init : goal.loop-row-init
loop-row-init c = scan_none _ _ _ (search rules)
