-- Document 01, "Numbers for what can't be judged", rows 6 and 7, as facts of a file that is to have some count of numbers: which of them applies, or none.
-- Assumes nothing.
use Rattle.std.specs.Prelude.{ℕ, ◌+◌, ◌*◌, ◌%◌, ◌^◌, ◌≤◌, ◌<◌, ◌≡◌, List, [], ◌∷◌, ◌++◌, length}
use Rattle.basis.specs.Rows.{Follows}
use Rattle.groups.specs.Encode.{encode_all}
use Rattle.groups.specs.Decode.{Bytes}
use Rattle.groups.specs.Numbers.{damage}

-- each byte has its top bit set
unfoldable pub Continued : List ℕ → Type 0
Continued [] = Unit
Continued (b ∷ bs) = (128 ≤ b) × Continued bs

-- the number of some groups of seven bits, low group first
unfoldable pub grouped : List ℕ → ℕ
grouped [] = 0
grouped (b ∷ bs) = b % 128 + 128 * grouped bs

-- no number stands at the front of some bytes: they end inside or before it, it is not in its shortest form, or it is too great
pub data Damaged (bytes : List ℕ) : Type 0 where
  ends : Continued bytes → Damaged bytes
  not_shortest : (groups rest : List ℕ) → bytes ≡ groups ++ (0 ∷ rest) → Continued groups → 0 < length groups → Damaged bytes
  too_great : (groups rest : List ℕ) (last : ℕ) → bytes ≡ groups ++ (last ∷ rest) → Continued groups → last < 128 → 4294967295 < grouped (groups ++ (last ∷ [])) → Damaged bytes

-- each number is at most 4,294,967,295
abbrev pub Narrow : List ℕ → Type 0
Narrow [] = Unit
Narrow (n ∷ ns) = (n < 2 ^ 32) × Narrow ns

-- some numbers stand at the front of a file, one after the other, and then the rest
pub record Starts (file ns rest : List ℕ) : Type 0 where
  pub is : file ≡ encode_all ns ++ rest
  pub narrow : Narrow ns

-- the row that applies, with its number and its place
pub data Row (count : ℕ) (file : List ℕ) : ℕ → ℕ → Type 0 where
  -- 6, offset of the number's first byte: file ends inside or before it, not shortest, or too great
  damaged : (ns rest : List ℕ) → Starts file ns rest → length ns < count → Damaged rest → Row count file 6 (length (encode_all ns))
  -- 7, offset of first extra byte: bytes after the last number
  trailing : (ns rest : List ℕ) → Starts file ns rest → length ns ≡ count → 0 < length rest → Row count file 7 (length (encode_all ns))

-- none applies: the file is that of so many numbers
pub record Holds (count : ℕ) (file ns : List ℕ) : Type 0 where
  pub is : file ≡ encode_all ns
  pub narrow : Narrow ns
  pub long : length ns ≡ count

-- what is refused of a file is what the table says
pub record Told : Type 0 where
  pub told : (count : ℕ) (file : List ℕ) → Bytes file → Follows (damage count 0 file) (Row count file) ((ns : List ℕ) × Holds count file ns)
