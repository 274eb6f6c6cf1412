-- What is known is that of the bytes so far. Assumes nothing.
use mathlib.Core.Path.{◌≡◌}
use Rattle.bookfile.specs.Places.{single}
use Rattle.bookfile.proofs.places.single_bytes.Given as goal

abbrev pub invariant-loop-byte : goal.invariant-loop-byte
invariant-loop-byte l = l.so_far ≡ single l.book l.at l.byte-index
