-- A number in decimal, as bytes: the first digit first, no leading zeros, 0 as one digit.
-- Assumes nothing.
use Rattle.std.specs.Prelude.{ℕ, zero, suc, ◌+◌, ◌/◌, ◌%◌, true, false, List, [], ◌∷◌, ◌++◌, ltb}

-- the byte of the digit d: 48 for 0 to 57 for 9
abbrev pub digit_byte : ℕ → ℕ
digit_byte d = 48 + d

-- the digits of n, of which at most f stand before the last
unfoldable pub digits_within : ℕ → ℕ → List ℕ
digits_within zero n = digit_byte n ∷ []
digits_within (suc f) n = elim (ltb n 10) [ true ↦ digit_byte n ∷ [] | false ↦ digits_within f (n / 10) ++ (digit_byte (n % 10) ∷ []) ]

-- no number has more digits than n + 1
unfoldable pub digits : ℕ → List ℕ
unfolding digits_within
digits n = digits_within n n
