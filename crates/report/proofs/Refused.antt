-- A law of a refusal's line: how long it can be.
-- Assumes nothing.
use Prim.Native.Nat.{ℕ, ◌^◌, ◌≤◌, ◌<◌}
use native.Mathlib.Omega.{arith}
use lib.ListN.{length}
use Rattle.report.specs.Refused.{refused_line}
use Rattle.report.proofs.Digits.{digits_most}
use Rattle.report.proofs.LineLengths.{pair_line_length}

-- a buffer of 192 bytes has room for two numbers of 64 bits
pub refused_room : (n place : ℕ) → n < 2 ^ 64 → place < 2 ^ 64 → length (refused_line n place) ≤ 192
refused_room n place g h = rw pair_line_length (omega (arith, digits_most 19 n (omega arith), digits_most 19 place (omega arith)))
