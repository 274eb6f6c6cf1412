-- `structure_of` meets its contract. Assumes nothing.
use Rattle.calculation.proofs.Sequence.{structure_is}
use Rattle.calculation.proofs.loads.structure_of.Goals as goal

pub returns-clause-figure : goal.returns-clause-figure
returns-clause-figure c = rw (← c.j.view_is) (structure_is _ _ c.from-weight.ensures c.from-height.ensures)
