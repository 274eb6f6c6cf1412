-- The marked cases on figures, checks and heights hold: by computation, row by row.
-- Assumes nothing.
use mathlib.Core.Path.{refl}
use Rattle.basis.specs.Fraction.{ceil, ◌≼◌, up, down}
use Rattle.basis.specs.Marked.{Hold}
use Rattle.section5.specs.Section5.{paper}
use Rattle.section5.specs.PoleForce.{after_structure, after_fittings, after_live_wind}
use Rattle.section5.specs.Marked.{rows}

pub marked : Hold rows
unfolding Hold rows paper ceil ◌≼◌ up down after_structure after_fittings after_live_wind
marked = (refl, (refl, (refl, (refl, (refl, (refl, (refl, (refl, (refl, (refl, (refl, (refl, (refl, (refl, (refl, (refl, (refl, (refl, (refl, (refl, (refl, (refl, (refl, (refl, (refl, (refl, (refl, (refl, (refl, (refl, (refl, tt)))))))))))))))))))))))))))))))
