-- A support and its 13 numbers: each gives the other back.
-- Assumes nothing.
use mathlib.Core.Path.{◌≡◌, refl}
use mathlib.Core.List.{List}
use Prim.Native.Nat.{ℕ}
use lib.ListN.{length}
use Rattle.basis.proofs.Entries.{entries, entries_all}
use Rattle.support.specs.declared.Support.{Support}
use Rattle.support.specs.Support.{support_of, numbers}

pub support_numbers : (s : Support) → support_of (numbers s) ≡ s
unfolding support_of numbers
support_numbers s = refl

pub numbers_support : (l : List ℕ) → length l ≡ 13 → numbers (support_of l) ≡ l
unfolding support_of numbers entries
numbers_support l e = entries_all l 13 0 e
