-- The marked cases of books with failing rows hold: by computation, row by row.
-- Assumes nothing.
use mathlib.Core.Path.{refl}
use Rattle.basis.specs.Fraction.{ceil, ◌≼◌, up, down}
use Rattle.basis.specs.Marked.{Hold}
use Rattle.section5.specs.Section5.{paper}
use Rattle.judge.specs.Marked.{examined}
use Rattle.book.specs.Marked.{books}
use Rattle.failing.specs.Failing.{judgements, place_in, told, numbers}
use Rattle.failing.specs.Marked.{rows, shown, told_of}

pub marked : Hold rows
unfolding Hold rows shown told_of paper ceil ◌≼◌ up down examined books judgements place_in told numbers
marked = (refl, (refl, (refl, (refl, (refl, (refl, (refl, (refl, (refl, (refl, (refl, (refl, (refl, tt)))))))))))))
