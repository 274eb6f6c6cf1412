-- `fails` meets its contract. Assumes nothing.
use Rattle.job.proofs.Bounds.{bounds}
use Rattle.failing.proofs.fails.Goals as goal

pub read-job-requires : goal.read-job-requires
read-job-requires c = rw (c.from.ensures) (bounds _ c.requires)
