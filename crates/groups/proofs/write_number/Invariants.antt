-- The first k bytes are the first groups of n, and those of x are left. Assumes nothing.
use Prim.Native.Nat.{◌^◌, ◌<◌}
use mathlib.Core.Path.{◌≡◌}
use lib.ListN.{length, drop}
use Rattle.groups.specs.Encode.{encode}
use Rattle.groups.proofs.Front.{front}
use Rattle.groups.proofs.write_number.Given as goal

abbrev pub invariant-loop-x : goal.invariant-loop-x
invariant-loop-x l =
    (l.out ≡ front l.initial.out (encode l.n) l.k) × (drop l.k (encode l.n) ≡ encode l.x) × (l.x < 2 ^ 32) × (l.k < length (encode l.n))

abbrev pub decreases-loop-x : goal.decreases-loop-x
decreases-loop-x l = l.x
