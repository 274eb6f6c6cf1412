-- Numbers one after the other at the front of some bytes: their values, the bytes that they take, and what is refused (6 and 7).
-- Assumes nothing.
use Rattle.std.specs.Prelude.{ℕ, zero, suc, ◌+◌, List, [], ◌∷◌, drop, replicate, Option, Some, None, Result, Ok, Err}
use Rattle.basis.specs.Refusal.{Examined, nothing, first}
use Rattle.basis.specs.declared.Refusal.TheVariants.{Damaged, Trailing}
use Rattle.basis.specs.declared.Refusal.{Refusal}
use Rattle.groups.specs.Decode.{decode}

-- what is refused of the bytes after the last number, which stand at an offset of the file
unfoldable pub extra : ℕ → List ℕ → Examined
extra at [] = nothing
extra at (b ∷ bs) = Err (Trailing at)

-- what is refused of n numbers and nothing after, in bytes that stand at an offset of the file
unfoldable pub damage : ℕ → ℕ → List ℕ → Examined
damage zero at bs = extra at bs
damage (suc n) at bs = elim (decode bs) [ Some (v, k) ↦ damage n (at + k) (drop k bs) | None ↦ Err (Damaged at) ]

-- the n numbers at the front of some bytes; 0 for the first damaged one and those after it
unfoldable pub values : ℕ → List ℕ → List ℕ
values zero bs = []
values (suc n) bs = elim (decode bs) [ Some (v, k) ↦ v ∷ values n (drop k bs) | None ↦ replicate (suc n) 0 ]

-- the value of a number and how many bytes it takes: 0 and none of a damaged one
unfoldable pub value_of : Option (ℕ × ℕ) → ℕ
value_of (Some (v, k)) = v
value_of None = 0

unfoldable pub bytes_of : Option (ℕ × ℕ) → ℕ
bytes_of (Some (v, k)) = k
bytes_of None = 0

-- how many bytes the first n numbers take, or those before the first damaged one
unfoldable pub offset_after : ℕ → List ℕ → ℕ
offset_after zero bs = 0
offset_after (suc n) bs = bytes_of (decode bs) + offset_after n (drop (bytes_of (decode bs)) bs)

-- a file of so many numbers: the numbers, or what is refused of it
unfoldable pub numbers_in : ℕ → List ℕ → Result (List ℕ) Refusal
numbers_in n file = first (damage n 0 file) (Ok (values n file))
