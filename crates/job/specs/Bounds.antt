-- What the ranges of an accepted job bound: what figures need to fit 64 bits, and reports to have a length that is enough.
-- Assumes nothing.
use Rattle.std.specs.Prelude.{◌≤◌, ◌<◌}
use Rattle.job.specs.declared.Job.{Job}

pub record Bounds (j : Job) : Type 0 where
  pub family : j.family ≤ 2
  pub tube : j.tube ≤ 2
  pub lb : j.lb ≤ 155
  pub la : j.la ≤ 200
  pub step : j.step ≤ 200
  pub ties : j.ties ≤ 3
  pub height : j.height ≤ 5000
  pub boards : j.boards ≤ 3
  pub boarded : j.boarded ≤ 10
  pub working : j.working ≤ 9
  pub q : j.q ≤ 10000
  pub total : j.total ≤ 30000
  pub nets : j.nets ≤ 5000
  pub weight : j.weight ≤ 500
  pub wind : j.wind ≤ 2000
  pub exposure : j.exposure ≤ 4000
  pub enclosure : j.enclosure ≤ 3
  pub shield : j.shield ≤ 2000
  pub wall : j.wall ≤ 2
  pub thickness : j.thickness ≤ 2000
  pub make : j.make ≤ 3
  pub capacity : j.capacity ≤ 100000
  pub soil : j.soil ≤ 5
  pub strength : j.strength ≤ 2000
  pub pad : j.pad ≤ 10000
  pub lb_pos : 0 < j.lb
  pub la_pos : 0 < j.la
  pub weight_pos : 0 < j.weight
