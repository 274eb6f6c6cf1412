-- `read_numbers` meets its contract. Assumes nothing.
use Rattle.std.proofs.Common.{◌∙◌, sym}
use Rattle.groups.proofs.Reading.{so_far_next}
use Rattle.groups.proofs.read_numbers.Goals as goal

pub loop-i-preserved : goal.loop-i-preserved
loop-i-preserved c = so_far_next _ _ _ _ _ c.loop-i.invariant _ _ c.loop-i-test.true (sym c.in-Some.is ∙ c.number_at.ensures)
