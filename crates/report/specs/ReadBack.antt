-- The decimal number at the front of some bytes, and that a number's digits are read back as that number.
-- Assumes nothing.
use Rattle.std.specs.Prelude.{ℕ, ◌+◌, ◌-◌, ◌*◌, ◌<◌, ◌≡◌, Bool, false, cond, List, [], ◌∷◌, ◌++◌, T, length, get_or}
use Rattle.basis.specs.Range.{within}
use Rattle.report.specs.Digits.{digits}

-- a byte from 48 (the digit 0) to 57 (9)
abbrev pub is_digit : ℕ → Bool
is_digit b = within 48 57 b

-- the number of which n was read so far, up to the first byte that is no digit
unfoldable pub read_from : ℕ → List ℕ → ℕ
read_from n [] = n
read_from n (b ∷ bytes) = cond (is_digit b) (read_from (10 * n + (b - 48)) bytes) n

-- the decimal number at the front of some bytes
unfoldable pub number_at : List ℕ → ℕ
unfolding read_from
number_at bytes = read_from 0 bytes

-- a number cannot go on in these bytes: they begin with no digit
abbrev pub NoDigitFirst : List ℕ → Type 0
NoDigitFirst [] = Unit
NoDigitFirst (b ∷ bytes) = is_digit b ≡ false

pub record ReadBack : Type 0 where
  -- what is read of a number's digits, whatever follows them but a digit, is the number
  pub back : (n : ℕ) (rest : List ℕ) → NoDigitFirst rest → number_at (digits n ++ rest) ≡ n
  -- they are digits throughout
  pub all_digits : (n i : ℕ) → i < length (digits n) → T (is_digit (get_or (digits n) i 0))
  -- a number above 0 begins with a digit from 1 to 9; 0 is one digit
  pub no_leading_zero : (n : ℕ) → 0 < n → T (within 49 57 (get_or (digits n) 0 0))
  pub zero : digits 0 ≡ 48 ∷ []
