-- `after_live` meets its contract. Assumes nothing.
use Rattle.calculation.proofs.Sequence.{after_live_is}
use Rattle.calculation.proofs.forces.after_live.Goals as goal

pub returns : goal.returns
returns c = search after_live_is
