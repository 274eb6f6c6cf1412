-- The first columns are in the rows, and the next starts at `at`. Assumes nothing.
use Prim.Native.Nat.{◌*◌}
use mathlib.Core.Path.{◌≡◌}
use lib.ListN.{drop}
use Rattle.groups.specs.Numbers.{values}
use Rattle.bookfile.specs.Places.{place_of}
use Rattle.bookfile.proofs.Filling.{Filled}
use Rattle.bookfile.proofs.places.Columns.put.Given as goal

abbrev pub invariant-loop-c : goal.invariant-loop-c
invariant-loop-c l = (l.at ≡ place_of l.self.book.now l.self.start (l.self.count * l.c)) × Filled l.self.count l.c (values (25 * l.self.count) (drop l.self.start l.self.book.now)) l.initial.out l.out
