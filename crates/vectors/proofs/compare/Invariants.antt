-- Comparing never says that a record is cut.
use Rattle.std.proofs.Common.{◌≡◌}
use Rattle.vectors.specs.declared.Outcome.TheVariants.{Cut}
use Rattle.vectors.proofs.compare.Given as goal

abbrev pub invariant-loop-k : goal.invariant-loop-k
invariant-loop-k g l = l.outcome ≡ Cut → ⊥
