-- `verdicts_of` meets its contract. Assumes nothing.
use Rattle.calculation.proofs.AsRead.{as_read_same}
use Rattle.calculation.proofs.checks.verdicts_of.Goals as goal

pub returns : goal.returns
returns c = rw (c.verdicts_by_check.ensures, c.read.ensures) (((as_read_same).same_job c.args.j).verdicts _ _ _ _ _ _ _)
