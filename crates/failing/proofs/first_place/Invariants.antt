-- The first rows have no failed check, and the next stands at the places. Assumes nothing.
use Prim.Native.Nat.{◌-◌}
use Rattle.failing.proofs.Loop.{Before}
use Rattle.failing.proofs.first_place.Given as goal

abbrev pub invariant-loop-row : goal.invariant-loop-row
invariant-loop-row l = Before l.sheet l.book l.layout.count l.at l.row

abbrev pub decreases-loop-row : goal.decreases-loop-row
decreases-loop-row l = l.layout.count - l.row
