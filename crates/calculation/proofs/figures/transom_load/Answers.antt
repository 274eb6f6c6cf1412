-- `transom_load` meets its contract. Assumes nothing.
use Rattle.basis.proofs.Fits.{is_most}
use Rattle.calculation.specs.Whole.{transom_load}
use Rattle.calculation.proofs.Most.{transom_load_most}
use Rattle.calculation.proofs.figures.transom_load.Goals as goal

pub returns : goal.returns
returns c = rw (← c.j.view_is) (is_most _ tt (transom_load_most c.j.invariant) (unfold transom_load in cc))
