-- `judge_accepted_support` meets its contract. Assumes nothing.
use Rattle.formwork.proofs.Ways.{assembled}
use Rattle.formwork.proofs.judge_accepted_support.Goals as goal

pub returns : goal.returns
returns c = assembled _ _ c.s.view_is c.pressure_of-wk.ensures.is c.wind_moment-mw.ensures.is c.z.view_is c.slenderness_of-z.ensures c.tube_column-c.ensures c.load_of-load.ensures.is c.force_of-n.ensures.is c.force_wind_of-nw.ensures.is c.e.view_is c.verdicts_of.ensures
