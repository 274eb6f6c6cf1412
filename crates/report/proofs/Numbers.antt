-- Laws of a number's digits stored in a buffer, the last first, and of the byte after them.
-- Assumes nothing.
use mathlib.Core.Path.{◌≡◌}
use mathlib.Core.List.{List}
use Prim.Native.Nat.{ℕ, suc, ◌+◌, ◌-◌, ◌/◌, ◌%◌, ◌≤◌, ◌<◌}
use native.Mathlib.Omega.{arith}
use lib.ListN.{length, set, length-append}
use lib.Seq.{sets}
use Rattle.report.specs.Digits.{digit_byte, digits}
use Rattle.report.specs.Report.{number_then}
use Rattle.report.proofs.Digits.{one, more, more_length}
use Rattle.report.proofs.Stores.{sets_append, sets_last}

pub number_then_length : (n after : ℕ) → length (number_then n after) ≡ suc (length (digits n))
unfolding number_then
number_then_length n after = rw length-append (omega arith)

module _ (l : List ℕ) (at : ℕ) where
  pub last_stored : (n : ℕ) → 10 ≤ n → sets (set l (at + length (digits n) - 1) (digit_byte (n % 10))) at (digits (n / 10)) ≡ sets l at (digits n)
  last_stored n h =
      let e : at + length (digits n) - 1 ≡ at + length (digits (n / 10)) = omega (arith, more_length n h) in
      rw (e, more n h) (sets_last l at (digits (n / 10)) (digit_byte (n % 10)))

  -- the first digit and the byte after the number, once the digits between are stored
  pub number_then_stored : (out : List ℕ) (n rest after : ℕ) → rest < 10 → sets out at (digits rest) ≡ sets l at (digits n)
      → set (set out at (digit_byte rest)) (at + length (digits n)) after ≡ sets l at (number_then n after)
  unfolding number_then
  number_then_stored out n rest after h e = rw (sets_append, ← e, one rest h)
