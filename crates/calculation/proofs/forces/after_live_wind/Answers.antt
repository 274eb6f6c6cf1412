-- `after_live_wind` meets its contract. Assumes nothing.
use Rattle.calculation.proofs.Sequence.{after_live_wind_is, exact_Nw_is}
use Rattle.calculation.proofs.forces.after_live_wind.Goals as goal

pub returns-clause-sum : goal.returns-clause-sum
returns-clause-sum c = search after_live_wind_is

pub returns-clause-paper : goal.returns-clause-paper
returns-clause-paper c = search (after_live_wind_is, exact_Nw_is)
