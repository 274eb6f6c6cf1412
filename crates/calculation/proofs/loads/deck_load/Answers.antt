-- `deck_load` meets its contract. Assumes nothing.
use Rattle.calculation.proofs.AsRead.{as_read_same}
use Rattle.calculation.proofs.loads.deck_load.Goals as goal

pub returns : goal.returns
returns c =
    record {
      is = rw (c.pole_load.ensures.is, c.read.ensures) ((as_read_same).same_job c.args.j).deck_load;
      within = c.pole_load.ensures.within;
    }
