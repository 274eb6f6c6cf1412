-- Laws of bytes stored one after another.
-- Assumes nothing.
use mathlib.Core.Path.{◌≡◌, sym}
use mathlib.Core.List.{List, [], ◌∷◌, ◌++◌, append_assoc}
use Prim.Native.Nat.{ℕ, suc, ◌+◌, ◌-◌, ◌≤◌}
use native.Mathlib.Nat.{add-zero}
use native.Mathlib.Omega.{arith}
use lib.ListN.{length, set, take}
use lib.Seq.{sets, set_comm, sets-eq}
use borrow.Rule.Slice.PartMut.{put_mid, Post-is}

pub sets_append : (l : List ℕ) (i : ℕ) (s t : List ℕ) → sets l i (s ++ t) ≡ sets (sets l i s) (i + length s) t
sets_append l i [] t = rw add-zero
sets_append l i (a ∷ s) t = let e : suc i + length s ≡ i + suc (length s) = omega arith in rw (← e) (sets_append (set l i a) (suc i) s t)

-- the last byte may be stored first
pub sets_last : (l : List ℕ) (i : ℕ) (s : List ℕ) (a : ℕ) → sets (set l (i + length s) a) i s ≡ sets l i (s ++ (a ∷ []))
sets_last l i [] a = rw add-zero
sets_last l i (b ∷ s) a =
    let e : i + suc (length s) ≡ suc i + length s = omega arith in
    rw (e, set_comm l (suc i + length s) i a b (λ q. omega arith)) (sets_last (set l i b) (suc i) s a)

-- a part of the buffer that is copied over
pub part_stored : (l : List ℕ) (at : ℕ) (s : List ℕ) → at + length s ≤ length l → put_mid at (at + length s - at) l s ≡ sets l at s
part_stored l at s h = rw (Post-is at (at + length s) l (omega arith), sets-eq s l at h) (sym (append_assoc (take at l) s _))
