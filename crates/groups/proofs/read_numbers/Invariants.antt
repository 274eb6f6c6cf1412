-- The first i numbers are read, and what is left has the whole's answer. Assumes nothing.
use lib.ListN.{length}
use Rattle.groups.proofs.Reading.{SoFar}
use Rattle.groups.proofs.read_numbers.Given as goal

abbrev pub invariant-loop-i : goal.invariant-loop-i
invariant-loop-i l = SoFar (length l.initial.numbers) l.file l.numbers l.i l.at
