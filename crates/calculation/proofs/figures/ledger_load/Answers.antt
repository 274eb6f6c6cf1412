-- `ledger_load` meets its contract. Assumes nothing.
use Prim.Native.Nat.{◌*◌, ◌+◌}
use Rattle.basis.proofs.Fits.{fits_below, is_most}
use Rattle.basis.proofs.Order.{mono}
use Rattle.calculation.specs.Whole.{ledger_load}
use Rattle.calculation.proofs.Most.{ledger_load_most}
use Rattle.calculation.proofs.figures.ledger_load.Goals as goal

pub overflow_mul-result-6 : goal.overflow_mul-result-6
overflow_mul-result-6 c = let b = c.j.invariant in fits_below ((1146 * 350 + 1615 * 10000) * (200 * 200 * 200) * 155) tt (simp (c.from-la.ensures, c.from-q.ensures, c.from-lb.ensures) (search mono depth 12))

pub returns : goal.returns
returns c = rw (← c.j.view_is) (is_most _ tt (ledger_load_most c.j.invariant) (unfold ledger_load in cc))
