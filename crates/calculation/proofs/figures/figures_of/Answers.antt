-- `figures_of` meets its contract. Assumes nothing.
use Rattle.calculation.proofs.AsRead.{as_read_same}
use Rattle.calculation.proofs.figures.figures_of.Goals as goal

pub returns : goal.returns
returns c = rw (c.figures_by_check.ensures, c.read.ensures) (((as_read_same).same_job c.args.j).figures _ _ _ c.args.heights)
