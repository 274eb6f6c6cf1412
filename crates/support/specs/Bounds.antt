-- What the ranges of an accepted support bound: what figures need to fit 64 bits, and reports to have a length that is enough.
-- Assumes nothing.
use Rattle.std.specs.Prelude.{◌≤◌, ◌≡◌}
use Rattle.support.specs.declared.Support.{Support}

pub record Bounds (s : Support) : Type 0 where
  pub kind : s.kind ≡ 3
  pub tube : s.tube ≤ 2
  pub step : s.step ≤ 200
  pub overhang : s.overhang ≤ 100
  pub bay : s.bay ≤ 200
  pub dead : s.dead ≤ 60000
  pub live : s.live ≤ 60000
  pub wind : s.wind ≤ 2000
  pub exposure : s.exposure ≤ 4000
  pub shape : s.shape ≤ 2000
  pub soil : s.soil ≤ 5
  pub strength : s.strength ≤ 2000
  pub pad : s.pad ≤ 10000
