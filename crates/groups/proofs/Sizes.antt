-- How many bytes numbers of known sizes take.
-- Assumes nothing.
use Prim.Native.Nat.{ℕ, suc, ◌+◌, ◌≤◌, ◌<◌}
use mathlib.Core.List.{List, [], ◌∷◌}
use native.Mathlib.Omega.{arith}
use lib.ListN.{length, length-append}
use Rattle.groups.specs.Encode.{encode_all}
use Rattle.groups.proofs.Encode.{cap, encode_short}

-- at most so many groups stand before the last of each number
abbrev pub Sized : List ℕ → List ℕ → Type 0
Sized [] [] = Unit
Sized [] (n ∷ ns) = ⊥
Sized (f ∷ fs) [] = ⊥
Sized (f ∷ fs) (n ∷ ns) = (n < cap f) × Sized fs ns

-- the bytes of numbers of those sizes
abbrev pub total : List ℕ → ℕ
total [] = 0
total (f ∷ fs) = suc f + total fs

pub sized_length : (fs ns : List ℕ) → Sized fs ns → length (encode_all ns) ≤ total fs
unfolding encode_all
sized_length [] [] s = omega arith
sized_length [] (n ∷ ns) s = absurd s
sized_length (f ∷ fs) [] s = absurd s
sized_length (f ∷ fs) (n ∷ ns) s = simp length-append (omega (arith, encode_short f n s.0, sized_length fs ns s.1))
