-- The marked cases of the whole call, of the calls on two ends, on load cells, and on a sheet and a book hold: by computation, row by row.
-- Assumes nothing.
use mathlib.Core.Path.{refl}
use Rattle.basis.specs.Fraction.{ceil, ◌≼◌, up, down}
use Rattle.basis.specs.Marked.{Hold}
use Rattle.sheet.specs.Bytes.{entries}
use Rattle.section5.specs.Section5.{paper}
use Rattle.section5.specs.Formwork.{clause}
use Rattle.judge.specs.Marked.{examined}
use Rattle.jobfile.specs.Marked.{files}
use Rattle.report.specs.Report.{report, lines}
use Rattle.between.specs.Order.{in_order, disorder}
use Rattle.between.specs.Between.{of_harsh}
use Rattle.book.specs.Marked.{books}
use Rattle.failing.specs.Failing.{judgements, place_in, told, numbers}
use Rattle.cells.specs.Marked.{record_of, five, runs}
use Rattle.rembilung.specs.Call.{call_code, between_code, cells_code, first_code, first_buffer}
use Rattle.rembilung.specs.Marked.{rows, returned, between_returned, cells_returned, first_returned, sheet_bytes}

pub marked : Hold rows
unfolding Hold rows returned sheet_bytes paper clause ceil ◌≼◌ up down lines report examined entries files call_code between_returned between_code in_order disorder of_harsh cells_returned cells_code record_of five runs first_returned first_code first_buffer books judgements place_in told numbers
marked = (refl, (refl, (refl, (refl, (refl, (refl, (refl, (refl, (refl, (refl, (refl, (refl, (refl, (refl, (refl, (refl, (refl, (refl, (refl, (refl, (refl, (refl, (refl, (refl, (refl, (refl, (refl, (refl, (refl, (refl, (refl, tt)))))))))))))))))))))))))))))))
