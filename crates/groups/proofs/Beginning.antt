-- The beginning of some bytes decides what is read: a number lies in its five bytes, and n numbers in 5 n bytes.
-- Assumes nothing.
use Prim.Native.Nat.{ℕ, zero, suc, ◌+◌, ◌-◌, ◌*◌, ◌≤◌}
use mathlib.Core.Path.{◌≡◌, refl, ap}
use mathlib.Core.List.{List, [], ◌∷◌}
use native.Mathlib.Nat.{sub-zero, zero-sub, suc-sub-suc}
use native.Mathlib.Omega.{arith}
use lib.ListN.{take, drop}
use lib.Seq.{take-nil}
use Rattle.groups.specs.Decode.{later_groups, decode}
use Rattle.groups.specs.Numbers.{extra, damage, values}
use Rattle.groups.proofs.Decode.{decoded, decode_within}
use Rattle.groups.proofs.Reading.{damage_next, values_next, damage_here, values_here}

later_take : (f m : ℕ) (bs : List ℕ) → suc f ≤ m → later_groups f (take m bs) ≡ later_groups f bs
unfolding later_groups
later_take f zero bs h = absurd (omega arith)
later_take zero (suc m) [] h = refl
later_take (suc f) (suc m) [] h = refl
later_take zero (suc m) (b ∷ bs) h = refl
later_take (suc f) (suc m) (b ∷ bs) h = rw (later_take f m bs (omega arith))

pub decode_take : (m : ℕ) (bs : List ℕ) → 5 ≤ m → decode (take m bs) ≡ decode bs
unfolding decode
decode_take zero bs h = absurd (omega arith)
decode_take (suc m) [] h = refl
decode_take (suc m) (b ∷ bs) h = rw (later_take 3 m bs (omega arith))

extra_take : (m at : ℕ) (bs : List ℕ) → 1 ≤ m → extra at (take m bs) ≡ extra at bs
unfolding extra
extra_take zero at bs h = absurd (omega arith)
extra_take (suc m) at [] h = refl
extra_take (suc m) at (b ∷ bs) h = refl

pub drop_take : (k m : ℕ) (bs : List ℕ) → drop k (take m bs) ≡ take (m - k) (drop k bs)
drop_take zero m bs = rw sub-zero
drop_take (suc k) zero bs = rw zero-sub refl
drop_take (suc k) (suc m) [] = rw take-nil
drop_take (suc k) (suc m) (b ∷ bs) = rw suc-sub-suc (drop_take k m bs)

pub damage_take : (n m at : ℕ) (bs : List ℕ) → 5 * n + 1 ≤ m → damage n at (take m bs) ≡ damage n at bs
unfolding damage
damage_take zero m at bs h = extra_take m at bs (omega arith)
damage_take (suc n) m at bs h =
    let t = decode_take m bs (omega arith) in
    decoded (decode bs)
    (λ v k e.
    let w = decode_within bs v k e in
    rw (damage_next n at v k bs e, damage_next n at v k (take m bs) (rw t e), drop_take)
    (damage_take n (m - k) (at + k) (drop k bs) (omega (arith, w.count))))
    (λ e. rw (damage_here n at bs e, damage_here n at (take m bs) (rw t e)))

pub values_take : (n m : ℕ) (bs : List ℕ) → 5 * n ≤ m → values n (take m bs) ≡ values n bs
unfolding values
values_take zero m bs h = refl
values_take (suc n) m bs h =
    let t = decode_take m bs (omega arith) in
    decoded (decode bs)
    (λ v k e.
    let w = decode_within bs v k e in
    rw (values_next n v k bs e, values_next n v k (take m bs) (rw t e), drop_take)
    (ap (λ (t : List ℕ). v ∷ t) (values_take n (m - k) (drop k bs) (omega (arith, w.count)))))
    (λ e. rw (values_here n bs e, values_here n (take m bs) (rw t e)))
