-- `write_columns` meets its contract. Assumes nothing.
use Prim.Native.Nat.{◌≤◌}
use mathlib.Core.Path.{refl}
use native.Mathlib.Omega.{arith}
use lib.ListN.{length, length-take, length-drop}
use Rattle.book.specs.Columns.{joined}
use Rattle.bookfile.specs.Pieces.{flat, column_of}
use Rattle.bookfile.proofs.Pieces.{wrote_length, wrote_room, wrote_piece, wrote_end, columns_pieces}
use Rattle.bookfile.proofs.columns.write_columns.Goals as goal

pub write_column-at-requires : goal.write_column-at-requires
write_column-at-requires c =
    let a = c.args in
    let room : length (joined (column_of a.rows.now) 0 25) ≤ length a.out.now = rw (← columns_pieces (length a.rows.now) (flat a.rows.now)) c.requires in
    let same = wrote_length _ _ _ _ _ _ c.loop-c.invariant room in
    let next = wrote_room _ _ _ _ _ _ c.loop-c.invariant room c.loop-c-test.true in
    (c.loop-c-test.true, simp (length-take, length-drop) (omega (arith, room, same, next)))

pub loop-c-preserved : goal.loop-c-preserved
loop-c-preserved c =
    let w = c.write_column-at.ensures in
    wrote_piece _ _ _ _ _ _ c.loop-c.invariant (rw (← columns_pieces (length c.args.rows.now) (flat c.args.rows.now)) c.requires) refl w.returned w.buffer c.loop-c-test.true

pub returns : goal.returns
returns c =
    let e = columns_pieces (length c.args.rows.now) (flat c.args.rows.now) in
    rw e (wrote_end _ _ _ _ _ _ c.loop-c.invariant (rw (← e) c.requires) c.loop-c-test.false)
