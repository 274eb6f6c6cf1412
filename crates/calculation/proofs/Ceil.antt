-- The library's division up is that of the papers.
-- Assumes nothing.
use mathlib.Core.Path.{◌≡◌, ◌∙◌}
use Prim.Native.Nat.{ℕ, ◌≤◌, ◌<◌}
use native.Mathlib.Nat.{le_antisymm, le-div_iff_mul-le}
use native.Mathlib.Omega.{arith}
use Rattle.std.specs.Int.{div_ceil}
use Rattle.std.proofs.lemmas.Grind.{div_ceil_times}
use Rattle.basis.specs.Fraction.{ceil}
use Rattle.basis.proofs.Order.{ceil_le}

least : (n d : ℕ) → 0 < d → div_ceil n d ≤ ceil n d
unfolding ceil
least n d p = let t = (div_ceil_times n d p).1 in (le-div_iff_mul-le p).1 (omega arith)

pub up : {r : ℕ} (n d : ℕ) → 0 < d → r ≡ div_ceil n d → r ≡ ceil n d
up n d p e = e ∙ le_antisymm (least n d p) ((ceil_le n d (div_ceil n d) p).1 (div_ceil_times n d p).0)
