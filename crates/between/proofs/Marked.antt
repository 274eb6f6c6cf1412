-- The marked cases of two ends hold: by computation, row by row.
-- Assumes nothing.
use mathlib.Core.Path.{refl}
use Rattle.basis.specs.Fraction.{ceil, ◌≼◌, up, down}
use Rattle.basis.specs.Marked.{Hold}
use Rattle.section5.specs.Section5.{paper}
use Rattle.judge.specs.Marked.{examined}
use Rattle.between.specs.Order.{in_order, disorder}
use Rattle.between.specs.Outcome.{outcomes}
use Rattle.between.specs.Between.{of_harsh, numbers}
use Rattle.between.specs.Marked.{rows, shown, refused}

pub marked : Hold rows
unfolding Hold rows shown refused paper ceil ◌≼◌ up down examined in_order disorder outcomes of_harsh numbers
marked = (refl, (refl, (refl, (refl, (refl, (refl, (refl, (refl, (refl, (refl, (refl, (refl, (refl, (refl, (refl, (refl, tt))))))))))))))))
