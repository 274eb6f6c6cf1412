-- `wind_moment` meets its contract. Assumes nothing.
use Prim.Native.Nat.{◌*◌}
use lib.Dec.{lit<}
use Rattle.basis.proofs.Fits.{fits_below, is_most}
use Rattle.basis.proofs.Order.{mono}
use Rattle.calculation.specs.Whole.{wind_moment}
use Rattle.calculation.proofs.Ceil.{up}
use Rattle.calculation.proofs.Most.{wind_moment_most}
use Rattle.calculation.proofs.figures.wind_moment.Goals as goal

pub overflow_mul-w-3 : goal.overflow_mul-w-3
overflow_mul-w-3 c = fits_below (119 * 17472 * 200 * (200 * 200)) tt (simp (c.from-la.ensures, c.from-step.ensures) (search mono depth 12))

pub returns : goal.returns
returns c = is_most _ tt (wind_moment_most (search) (search) (search)) (unfold wind_moment in cc (up _ _ (lit< tt) c.div_ceil.ensures))
