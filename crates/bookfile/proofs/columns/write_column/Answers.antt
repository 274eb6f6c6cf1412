-- `write_column` meets its contract. Assumes nothing.
use Prim.Native.Nat.{◌≤◌}
use mathlib.Core.Path.{ap}
use native.Mathlib.Omega.{arith}
use lib.ListN.{length, length-take, length-drop}
use Rattle.book.specs.Columns.{joined}
use Rattle.bookfile.specs.Pieces.{flat, entry_bytes}
use Rattle.bookfile.proofs.Pieces.{wrote_length, wrote_room, wrote_piece, wrote_all, wrote_end, column_pieces}
use Rattle.bookfile.proofs.Flat.{entry_is}
use Rattle.bookfile.proofs.columns.write_column.Goals as goal

pub write_number-at-requires : goal.write_number-at-requires
write_number-at-requires c =
    let a = c.args in
    let room : length (joined (entry_bytes (flat a.rows.now) a.c) 0 (length a.rows.now)) ≤ length a.out.now = rw (← column_pieces (length a.rows.now) (flat a.rows.now) a.c) c.requires.1 in
    let same = wrote_length _ _ _ _ _ _ c.loop-row.invariant room in
    let next = wrote_room _ _ _ _ _ _ c.loop-row.invariant room c.loop-row-test.true in
    simp (length-take, length-drop) (omega (arith, room, same, next, ap length (entry_is a.rows.now a.c c.loop-row.row-index c.told-rows c.loop-row-test.true c.requires.0)))

pub loop-row-preserved : goal.loop-row-preserved
loop-row-preserved c =
    let w = c.write_number-at.ensures in
    wrote_piece _ _ _ _ _ _ c.loop-row.invariant (rw (← column_pieces (length c.args.rows.now) (flat c.args.rows.now) c.args.c) c.requires.1) (entry_is _ _ _ c.told-rows c.loop-row-test.true c.requires.0) w.returned w.buffer c.loop-row-test.true

pub returns-clause-returned : goal.returns-clause-returned
returns-clause-returned c =
    let e = column_pieces (length c.args.rows.now) (flat c.args.rows.now) c.args.c in
    rw e (wrote_all _ _ _ _ _ _ c.loop-row.invariant (rw (← e) c.requires.1) c.loop-row-test.false)

pub returns-clause-buffer : goal.returns-clause-buffer
returns-clause-buffer c =
    let e = column_pieces (length c.args.rows.now) (flat c.args.rows.now) c.args.c in
    rw e (wrote_end _ _ _ _ _ _ c.loop-row.invariant (rw (← e) c.requires.1) c.loop-row-test.false)
