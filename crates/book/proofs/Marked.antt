-- The marked cases on books hold: by computation, row by row.
-- Assumes nothing.
use mathlib.Core.Path.{refl}
use Rattle.basis.specs.Marked.{Hold}
use Rattle.job.specs.JobJ.{numbers_J}
use Rattle.book.specs.Marked.{numbers_K, two_rows, read, written, rows, books}

pub marked : Hold rows
unfolding Hold rows numbers_J numbers_K two_rows read written books
marked = (refl, (refl, (refl, (refl, (refl, (refl, (refl, (refl, (refl, (refl, (refl, (refl, (refl, (refl, (refl, (refl, (refl, (refl, tt))))))))))))))))))
