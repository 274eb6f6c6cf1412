-- `ledger_moment` meets its contract. Assumes nothing.
use Prim.Native.Nat.{◌*◌, ◌+◌}
use lib.Dec.{lit<}
use Rattle.basis.proofs.Fits.{fits_below, is_most}
use Rattle.basis.proofs.Order.{mono}
use Rattle.calculation.specs.Whole.{ledger_moment}
use Rattle.calculation.proofs.Ceil.{up}
use Rattle.calculation.proofs.Most.{ledger_moment_most}
use Rattle.calculation.proofs.figures.ledger_moment.Goals as goal

pub overflow_mul-board_of-3 : goal.overflow_mul-board_of-3
overflow_mul-board_of-3 c = let b = c.j.invariant in fits_below ((2100 * 350 + 2982 * 10000) * (200 * 200) * 155) tt (simp (c.from-la.ensures, c.from-q.ensures, c.from-lb.ensures) (search mono depth 12))

pub returns : goal.returns
returns c = rw (← c.j.view_is) (is_most _ tt (ledger_moment_most c.j.invariant) (unfold ledger_moment in cc (up _ _ (lit< tt) c.div_ceil.ensures)))
