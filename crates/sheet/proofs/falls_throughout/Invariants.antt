-- `falls_throughout` meets its contract: the invariant is that the entries up to the place fall as far as is said. Assumes nothing.
use mathlib.Core.Path.{◌≡◌}
use Rattle.sheet.specs.Pass.{falling}
use Rattle.sheet.proofs.falls_throughout.Given as goal

abbrev pub invariant-loop-k : goal.invariant-loop-k
invariant-loop-k l = l.so_far ≡ falling l.sheet l.k
