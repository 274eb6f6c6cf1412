-- The first columns are written, and nothing else. Assumes nothing.
use Rattle.bookfile.specs.Pieces.{column_of}
use Rattle.bookfile.proofs.Pieces.{Wrote}
use Rattle.bookfile.proofs.columns.write_columns.Given as goal

abbrev pub invariant-loop-c : goal.invariant-loop-c
invariant-loop-c l = Wrote (column_of l.rows) l.initial.out l.out 25 l.c l.at
