-- `first_failing` meets its contract. Assumes nothing.
use Rattle.std.proofs.Common.{rules}
use Rattle.failing.proofs.Place.{place_low}
use Rattle.failing.proofs.first_failing.Goals as goal

pub judged_of-requires : goal.judged_of-requires
judged_of-requires c = place_low c.in_ok-sheet.sheet c.args.book.now (search rules) c.first_place-place.result c.first_place-place.ensures
