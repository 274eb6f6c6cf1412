-- `Text::check` meets its contract. Assumes nothing.
use Rattle.report.specs.Report.{check_line}
use Rattle.report.proofs.Put.{room_first, room_then, put_then}
use Rattle.report.proofs.text.Text.check.Goals as goal

pub number-requires-2 : goal.number-requires-2
number-requires-2 c = unfold check_line in room_first _ (room_then c.number.ensures c.requires)

pub number-requires-3 : goal.number-requires-3
number-requires-3 c = unfold check_line in room_then c.number-2.ensures (room_then c.number.ensures c.requires)

pub returns : goal.returns
returns c = unfold check_line in put_then c.number.ensures (put_then c.number-2.ensures c.number-3.ensures)
