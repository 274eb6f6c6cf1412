-- The first entry that does not stand, as an Option.
-- Assumes nothing.
use mathlib.Core.Path.{◌≡◌, refl}
use mathlib.Core.List.{List}
use Prim.Native.Nat.{ℕ, ◌<◌}
use native.Mathlib.Omega.{arith}
use borrow.Author.Tests.{eq-eqb, ne_eqb}
use Rattle.std.specs.Prelude.{Some, None}
use Rattle.sheet.specs.Sheet.{fault, first_fault}

pub found : (s : List ℕ) (k : ℕ) → k < 251 → k ≡ fault s → Some k ≡ first_fault s
unfolding first_fault
found s k l e = rw (← e, ne_eqb k 251 (λ z. omega arith)) refl

pub none_found : (s : List ℕ) → fault s ≡ 251 → None ≡ first_fault s
unfolding first_fault
none_found s e = rw (eq-eqb (fault s) 251 e) refl
