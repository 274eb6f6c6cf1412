-- `write_refused` meets its contract. Assumes nothing.
use mathlib.Core.Path.{◌≡◌}
use native.Mathlib.Omega.{arith}
use lib.ListN.{length}
use borrow.Author.Rules.{rules}
use Rattle.report.specs.Report.{pair_line}
use Rattle.report.proofs.Put.{room_front, room_then, put_then, put_front}
use Rattle.report.proofs.Refused.{refused_room}
use Rattle.report.proofs.refusal.write_refused.Goals as goal

pub pair-requires : goal.pair-requires
pair-requires c =
    unfold pair_line in
    let l : length c.args.out.now ≡ 192 = search rules in
    room_then c.word.ensures (room_front (rw l (refused_room c.args.number c.args.place (omega arith) (omega arith))) c.new-text.ensures.begin c.new-text.ensures.same)

pub returns : goal.returns
returns c =
    unfold pair_line in
    let l : length c.args.out.now ≡ 192 = search rules in
    let p = put_then c.word.ensures c.pair.ensures in
    let f = put_front (rw l (refused_room c.args.number c.args.place (omega arith) (omega arith))) c.new-text.ensures.begin c.new-text.ensures.same p in
    record { returned = f.0; buffer = f.1 }
