-- The first rows' numbers of the column are written, and nothing else. Assumes nothing.
use lib.ListN.{length}
use Rattle.bookfile.specs.Pieces.{flat, entry_bytes}
use Rattle.bookfile.proofs.Pieces.{Wrote}
use Rattle.bookfile.proofs.columns.write_column.Given as goal

abbrev pub invariant-loop-row : goal.invariant-loop-row
invariant-loop-row l = Wrote (entry_bytes (flat l.rows) l.c) l.initial.out l.out (length l.rows) l.row-index l.at
