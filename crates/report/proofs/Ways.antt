-- What writing a text answers and leaves, where there is room for it.
-- Assumes nothing.
use mathlib.Core.Path.{◌≡◌, refl}
use mathlib.Core.List.{List}
use Prim.Native.Nat.{ℕ, ◌≤◌}
use native.Mathlib.Omega.{arith}
use lib.ListN.{length}
use Rattle.std.specs.Prelude.{Ok}
use Rattle.basis.specs.Writing.{room_refusal, written_or, written_over, left_or}
use Rattle.basis.proofs.Writing.{room_nothing}

pub done : (text out : List ℕ) {n : ℕ} {m : List ℕ} → n ≡ length text → n ≤ length out → m ≡ written_over text out
    → (Ok n ≡ written_or (room_refusal text out) (length text)) × (m ≡ left_or (room_refusal text out) text out)
done text out e l p = rw (e, p, room_nothing text out (omega arith)) (refl, refl)
