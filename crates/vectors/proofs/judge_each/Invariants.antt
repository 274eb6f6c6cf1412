-- No more records differ than were judged.
use Rattle.std.proofs.Common.{◌≤◌}
use Rattle.vectors.proofs.judge_each.Given as goal

abbrev pub invariant-loop-at : goal.invariant-loop-at
invariant-loop-at g l = l.differ ≤ l.at-counter
