-- `Text::report` meets its contract. Assumes nothing.
use Rattle.report.specs.Report.{pair, pair_line, report}
use Rattle.report.proofs.Put.{room_first, room_then, put_then}
use Rattle.report.proofs.text.Text.report.Goals as goal

pub checks-requires : goal.checks-requires
checks-requires c = unfold report in room_first _ c.requires

pub heights-requires : goal.heights-requires
heights-requires c = unfold report in room_first _ (room_then c.checks.ensures c.requires)

pub word-requires : goal.word-requires
word-requires c =
    unfold report pair_line in
    room_first (pair _ _) (room_first _ (room_then c.heights.ensures (room_then c.checks.ensures c.requires)))

pub pair-requires : goal.pair-requires
pair-requires c =
    unfold report pair_line in
    room_then c.word.ensures (room_first _ (room_then c.heights.ensures (room_then c.checks.ensures c.requires)))

pub column-requires : goal.column-requires
column-requires c =
    unfold report pair_line in
    room_then (put_then c.word.ensures c.pair.ensures) (room_then c.heights.ensures (room_then c.checks.ensures c.requires))

pub returns : goal.returns
returns c =
    unfold report pair_line in
    put_then c.checks.ensures (put_then c.heights.ensures (put_then (put_then c.word.ensures c.pair.ensures) c.column.ensures))
