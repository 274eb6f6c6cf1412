-- `first_place` meets its contract. Assumes nothing.
use Rattle.std.proofs.Common.{rules}
use Rattle.failing.proofs.Loop.{before_none, next_stands, before_next, none_found}
use Rattle.failing.proofs.first_place.Goals as goal

pub loop-row-init : goal.loop-row-init
loop-row-init c = before_none _ _ c.requires.0 c.requires.1

pub fails-requires : goal.fails-requires
fails-requires c = next_stands _ _ _ _ _ c.loop-row.invariant (search rules) c.next_row.ensures.returned

pub loop-row-preserved : goal.loop-row-preserved
loop-row-preserved c = before_next _ _ _ _ _ c.loop-row.invariant (search rules) c.next_row.ensures.returned c.fails.ensures c.next_row.ensures.moving (search rules)

pub returns-then-row-layout : goal.returns-then-row-layout
returns-then-row-layout c = none_found _ _ _ _ _ c.loop-row.invariant (search rules)
