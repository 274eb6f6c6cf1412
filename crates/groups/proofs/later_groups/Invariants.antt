-- What is left to read, after what was read, is the whole. Assumes nothing.
use mathlib.Core.Path.{◌≡◌}
use Prim.Native.Nat.{◌+◌, ◌^◌, ◌<◌}
use Rattle.groups.specs.Decode.{later_groups, extend}
use Rattle.groups.proofs.Groups.{resumed}
use Rattle.groups.proofs.later_groups.Given as goal

abbrev pub invariant-loop-i : goal.invariant-loop-i
invariant-loop-i l = record {
  can_next : (goal.iterator-loop-i).can_next l.i-iterator;
  is_finite : (goal.iterator-loop-i).is_finite l.i-iterator;
  count : l.i-iterator.count + l.i-iterator.iter.n ≡ 4;
  weight : l.weight ≡ 128 ^ (l.i-iterator.count + 1);
  value : l.value < l.weight;
  whole : resumed l.value l.weight (l.i-iterator.count + 1) l.i-iterator.iter.n l.i-iterator.iter.iter.rest.now ≡ extend l.b (later_groups 3 l.later);
}
