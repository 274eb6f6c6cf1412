-- `slip_of` meets its contract. Assumes nothing.
use lib.Dec.{lit<}
use Rattle.basis.proofs.Fits.{is_most}
use Rattle.calculation.specs.Whole.{slip}
use Rattle.calculation.proofs.Ceil.{up}
use Rattle.calculation.proofs.Most.{slip_most}
use Rattle.calculation.proofs.figures.slip_of.Goals as goal

pub returns : goal.returns
returns c = rw (← c.j.view_is) (is_most _ tt (slip_most c.j.invariant) (unfold slip in cc (up _ _ (lit< tt) c.div_ceil.ensures)))
