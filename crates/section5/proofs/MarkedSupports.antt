-- The marked cases of supports hold: by computation, row by row.
-- Assumes nothing.
use mathlib.Core.Path.{refl}
use Rattle.basis.specs.Fraction.{ceil, ◌≼◌, up, down}
use Rattle.basis.specs.Marked.{Hold}
use Rattle.section5.specs.Section5.{paper}
use Rattle.section5.specs.Formwork.{clause}
use Rattle.section5.specs.MarkedSupports.{rows}

pub marked : Hold rows
unfolding Hold rows paper clause ceil ◌≼◌ up down
marked = (refl, (refl, (refl, (refl, (refl, (refl, (refl, (refl, (refl, (refl, (refl, tt)))))))))))
