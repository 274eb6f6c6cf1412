-- `after_structure` meets its contract. Assumes nothing.
use Rattle.calculation.proofs.Sequence.{after_structure_is}
use Rattle.calculation.proofs.forces.after_structure.Goals as goal

pub returns-clause-sum : goal.returns-clause-sum
returns-clause-sum c = search after_structure_is
