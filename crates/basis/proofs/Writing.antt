-- Laws of writing: what is refused for want of room, and when.
-- Assumes nothing.
use mathlib.Core.Path.{◌≡◌, refl}
use mathlib.Core.List.{List, ◌++◌}
use Prim.Native.Nat.{ℕ, ◌≤◌, ◌<◌}
use native.Mathlib.Omega.{arith}
use lib.Dec.{leb, leb→le}
use lib.ListN.{length, drop, length-append, length-drop}
use borrow.Author.Tests.{le-leb, lt-leb}
use Rattle.std.specs.Prelude.{Result, Ok, Err}
use Rattle.basis.specs.declared.Refusal.{Refusal}
use Rattle.basis.specs.declared.Refusal.TheVariants.{TooShort}
use Rattle.basis.specs.Refusal.{Examined, nothing}
use Rattle.basis.specs.Writing.{room_refusal, written_or, left_or}
use Rattle.basis.proofs.Refusals.{unless_pass}

pub room_fits : (text out : List ℕ) → room_refusal text out ≡ nothing → length text ≤ length out
room_fits text out e = leb→le (length text) (length out) (unless_pass (leb (length text) (length out)) _ nothing tt e).0

pub room_nothing : (text out : List ℕ) → length text ≤ length out → room_refusal text out ≡ nothing
room_nothing text out l = simp (le-leb (length text) (length out) l)

pub room_short : (text out : List ℕ) → length out < length text → room_refusal text out ≡ Err (TooShort (length text))
room_short text out l = simp (lt-leb (length text) (length out) l)

-- the buffer keeps its length
pub left_length : {A : Type 0} (r : Result A Refusal) (text out : List ℕ) → ((x : A) → r ≡ Ok x → length text ≤ length out) → length (left_or r text out) ≡ length out
left_length (Ok x) text out h = rw (length-append, length-drop) (omega (arith, h x refl))
left_length (Err r) text out h = refl

-- the two ways out of a writer: refused, and done
module _ (text out : List ℕ) {examined : Examined} where
  pub refused_leaves : {r : Refusal} → examined ≡ Err r → (Err r ≡ written_or examined (length text)) × (out ≡ left_or examined text out)
  refused_leaves e = rw e (refl, refl)

  pub done_leaves : examined ≡ nothing → (Ok (length text) ≡ written_or examined (length text)) × (text ++ drop (length text) out ≡ left_or examined text out)
  done_leaves e = rw e (refl, refl)
