-- `fittings_of` meets its contract. Assumes nothing.
use Prim.Native.Nat.{◌*◌, ◌+◌}
use Rattle.basis.proofs.Fits.{fits_below, is_most}
use Rattle.basis.proofs.Order.{mono}
use Rattle.calculation.specs.Whole.{fittings}
use Rattle.calculation.proofs.Most.{fittings_most}
use Rattle.calculation.proofs.loads.fittings_of.Goals as goal

pub overflow_add-result : goal.overflow_add-result
overflow_add-result c = let b = c.j.invariant in fits_below (10 * 350 * 200 * 185 + 200 * 9 * 140 * 200) tt (simp (c.from-la.ensures, c.from-boarded.ensures, c.from-working.ensures) (search mono depth 12))

pub overflow_add-result-2 : goal.overflow_add-result-2
overflow_add-result-2 c = let b = c.j.invariant in fits_below (10 * 350 * 200 * 185 + 200 * 9 * 140 * 200 + 20000 * 5000) tt (simp (c.from-la.ensures, c.from-boarded.ensures, c.from-working.ensures, c.from-nets.ensures) (search mono depth 12))

pub returns : goal.returns
returns c = rw (← c.j.view_is) (is_most _ tt (fittings_most c.j.invariant) (unfold fittings in cc))
