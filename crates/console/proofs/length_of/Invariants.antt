-- The invariant: the count is at most the greatest place.
use Rattle.std.proofs.Common.{◌-◌, ◌≤◌, ◌≡◌, length}
use Rattle.console.proofs.length_of.Given as goal

abbrev pub invariant-loop-length : goal.invariant-loop-length
invariant-loop-length g l = (l.length ≤ 4294967295) × (4096 ≡ length l.space)

abbrev pub decreases-loop-length : goal.decreases-loop-length
decreases-loop-length g l = 4294967295 - l.length
