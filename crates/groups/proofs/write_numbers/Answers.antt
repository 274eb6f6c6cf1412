-- `write_numbers` meets its contract. Assumes nothing.
use Rattle.std.proofs.Common.{◌≡◌, ◌∙◌, ap, arith, length, get_or, ◌+◌, drop, length-take, length-drop}
use Rattle.groups.specs.Encode.{encode, encode_all}
use Rattle.groups.proofs.Encode.{all_next, all_end}
use Rattle.groups.proofs.Front.{front_length, front_all, front_part, front_next}
use Rattle.groups.proofs.write_numbers.Goals as goal

pub write_number-at-requires : goal.write_number-at-requires
write_number-at-requires c =
    let l = c.loop-n in
    let ns = c.args.numbers.now in
    let n = front_next _ (encode (get_or ns l.n-index 0)) (encode_all (drop (l.n-index + 1) ns)) l.at l.invariant.within (l.invariant.left ∙ all_next ns l.n-index (omega arith)) in
    let same = front_length c.args.out.now (encode_all ns) l.at (omega (arith, c.requires)) (omega arith) in
    simp (length-take, length-drop) (omega (arith, n.1, ap length l.invariant.written, same, c.requires))

pub loop-n-preserved : goal.loop-n-preserved
loop-n-preserved c =
    let l = c.loop-n in
    let ns = c.args.numbers.now in
    let g = c.write_number-at.ensures in
    let t = l.invariant.left ∙ all_next ns l.n-index (omega arith) in
    let n = front_next _ _ _ l.at l.invariant.within t in
    record {
      left = rw g.returned n.0;
      within = omega (arith, g.returned, n.1);
      written = rw (g.returned, g.buffer) (front_part _ _ _ _ _ _ l.invariant.within c.requires l.invariant.written t);
    }

pub returns : goal.returns
returns c =
    let l = c.loop-n in
    let ns = c.args.numbers.now in
    let e = ap length (l.invariant.left ∙ all_end ns l.n-index (omega arith)) in
    let z : l.at ≡ length (encode_all ns) = omega (arith, length-drop l.at (encode_all ns), e) in
    l.invariant.written ∙ front_all c.args.out.now (encode_all ns) _ z
