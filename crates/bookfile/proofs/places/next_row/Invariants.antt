-- The first c numbers are the row's, and the first c places have moved. Assumes nothing.
use mathlib.Core.Path.{◌≡◌}
use lib.ListN.{replicate}
use Rattle.groups.proofs.Front.{front}
use Rattle.bookfile.specs.Places.{row_at, moved}
use Rattle.bookfile.proofs.places.next_row.Given as goal

abbrev pub invariant-loop-c : goal.invariant-loop-c
invariant-loop-c l =
    (l.numbers ≡ front (replicate 25 0) (row_at l.book l.initial.places) l.c) × (l.places ≡ front l.initial.places (moved l.book l.initial.places) l.c)
