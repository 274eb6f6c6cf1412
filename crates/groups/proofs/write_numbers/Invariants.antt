-- The first `at` bytes are the first of the numbers', and those of the numbers not yet written are left. Assumes nothing.
use Prim.Native.Nat.{◌≤◌}
use mathlib.Core.Path.{◌≡◌}
use lib.ListN.{length, drop}
use Rattle.groups.specs.Encode.{encode_all}
use Rattle.groups.proofs.Front.{front}
use Rattle.groups.proofs.write_numbers.Given as goal

abbrev pub invariant-loop-n : goal.invariant-loop-n
invariant-loop-n l = record {
  left : drop l.at (encode_all l.numbers) ≡ encode_all (drop l.n-index l.numbers);
  within : l.at ≤ length (encode_all l.numbers);
  written : l.out ≡ front l.initial.out (encode_all l.numbers) l.at;
}
