-- `transom_moment` meets its contract. Assumes nothing.
use Prim.Native.Nat.{◌*◌, ◌+◌}
use lib.Dec.{lit<}
use Rattle.basis.proofs.Fits.{fits_below, is_most}
use Rattle.basis.proofs.Order.{mono}
use Rattle.calculation.specs.Whole.{transom_moment}
use Rattle.calculation.proofs.Ceil.{up}
use Rattle.calculation.proofs.Most.{transom_moment_most}
use Rattle.calculation.proofs.figures.transom_moment.Goals as goal

pub overflow_mul-board_of-3 : goal.overflow_mul-board_of-3
overflow_mul-board_of-3 c = let b = c.j.invariant in fits_below ((12 * 350 + 14 * 10000) * 200 * (155 * 155)) tt (simp (c.from-la.ensures, c.from-q.ensures, c.from-lb.ensures) (search mono depth 12))

pub returns : goal.returns
returns c = rw (← c.j.view_is) (is_most _ tt (transom_moment_most c.j.invariant) (unfold transom_moment in cc (up _ _ (lit< tt) c.div_ceil.ensures)))
