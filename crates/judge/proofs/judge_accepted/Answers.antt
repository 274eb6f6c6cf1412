-- `judge_accepted` meets its contract. Assumes nothing.
use Rattle.judge.proofs.Ways.{assembled}
use Rattle.judge.proofs.judge_accepted.Goals as goal

pub returns : goal.returns
returns c = assembled _ _ c.j.view_is c.e.view_is c.e-2.view_is c.effects_of-e.ensures c.z.view_is c.pole_slenderness-z.ensures c.tube_column-c.ensures c.pole_load.ensures.is c.height_count.ensures.is c.family_heights-heights.ensures c.verdicts_by_check.ensures c.figures_by_check.ensures
