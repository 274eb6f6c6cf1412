-- The first c + 1 places are those of the columns' starts. Assumes nothing.
use Prim.Native.Nat.{◌+◌}
use mathlib.Core.Path.{◌≡◌}
use lib.ListN.{replicate}
use Rattle.groups.proofs.Front.{front}
use Rattle.bookfile.specs.Places.{starts}
use Rattle.bookfile.proofs.places.Columns.starts.Given as goal

abbrev pub invariant-loop-c : goal.invariant-loop-c
invariant-loop-c l = l.places ≡ front (replicate 25 l.self.start) (starts l.self.book.now l.self.start l.self.count) (l.c + 1)
