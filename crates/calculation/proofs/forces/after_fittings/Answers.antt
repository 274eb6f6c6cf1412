-- `after_fittings` meets its contract. Assumes nothing.
use Rattle.calculation.proofs.Sequence.{after_fittings_is}
use Rattle.calculation.proofs.forces.after_fittings.Goals as goal

pub returns-clause-sum : goal.returns-clause-sum
returns-clause-sum c = search after_fittings_is
