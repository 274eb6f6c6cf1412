-- `column_slenderness` meets its contract. Assumes nothing.
use Rattle.calculation.proofs.AsRead.{as_read_same}
use Rattle.calculation.proofs.figures.column_slenderness.Goals as goal

pub returns : goal.returns
returns c = rw (c.pole_slenderness.ensures, c.read.ensures) ((as_read_same).same_job c.args.j).slenderness
