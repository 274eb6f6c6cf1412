-- Laws of places: they add up, and the numbers stand at them; damaged or not, since a damaged number takes no bytes.
-- Assumes nothing.
use Rattle.std.specs.Prelude.{None}
use Prim.Native.Nat.{ℕ, zero, suc, ◌+◌, ◌-◌, ◌<◌}
use mathlib.Core.Path.{◌≡◌, ◌∙◌, refl, sym, ap}
use mathlib.Core.List.{List, ◌∷◌, ◌++◌}
use native.Mathlib.Nat.{add-zero, zero-add, add_assoc}
use native.Mathlib.Omega.{arith}
use lib.ListN.{length, drop, get_or, replicate}
use lib.Seq.{drop-drop}
use Rattle.groups.specs.Encode.{encode_all}
use Rattle.groups.specs.Decode.{decode}
use Rattle.groups.specs.Numbers.{damage, values, value_of, bytes_of, offset_after}
use Rattle.groups.specs.Rows.{Narrow}
use Rattle.groups.proofs.Decode.{decoded}
use Rattle.groups.proofs.Files.{values_back}
use Rattle.groups.proofs.Reading.{damage_next, values_next, damage_here, values_here}

zeros : (n : ℕ) (bs : List ℕ) → decode bs ≡ None → values n bs ≡ replicate n 0
unfolding values
zeros zero bs e = refl
zeros (suc n) bs e = values_here n bs e

-- one number more
pub values_cons : (n : ℕ) (bs : List ℕ) → values (suc n) bs ≡ value_of (decode bs) ∷ values n (drop (bytes_of (decode bs)) bs)
unfolding value_of bytes_of
values_cons n bs =
    decoded (decode bs) (λ v k e. rw (values_next n v k bs e, e)) (λ e. rw (values_here n bs e, e, zeros n bs e) refl)

-- the values of m + n numbers are those of m, and then those of n after them
pub values_add : (m n : ℕ) (bs : List ℕ) → values (m + n) bs ≡ values m bs ++ values n (drop (offset_after m bs) bs)
unfolding offset_after values
values_add zero n bs = rw zero-add
values_add (suc m) n bs =
    let s : suc m + n ≡ suc (m + n) = omega arith in
    rw (s, values_cons (m + n) bs, values_cons m bs, values_add m n (drop (bytes_of (decode bs)) bs), drop-drop)

pub offset_add : (m n : ℕ) (bs : List ℕ) → offset_after (m + n) bs ≡ offset_after m bs + offset_after n (drop (offset_after m bs) bs)
unfolding offset_after
offset_add zero n bs = simp zero-add
offset_add (suc m) n bs =
    let s : suc m + n ≡ suc (m + n) = omega arith in
    rw (s, offset_add m n (drop (bytes_of (decode bs)) bs), drop-drop, add_assoc)

-- the number j stands after j numbers
pub values_at : (m j : ℕ) (bs : List ℕ) → j < m → get_or (values m bs) j 0 ≡ value_of (decode (drop (offset_after j bs) bs))
unfolding offset_after
values_at zero j bs h = absurd (omega arith)
values_at (suc m) zero bs h = rw (values_cons m bs)
values_at (suc m) (suc j) bs h =
    rw (values_cons m bs, ← drop-drop) (values_at m j (drop (bytes_of (decode bs)) bs) (omega arith))

-- the place stays at a damaged number
pub offset_stays : (m : ℕ) (bs : List ℕ) → decode bs ≡ None → offset_after m bs ≡ 0
unfolding offset_after bytes_of
offset_stays zero bs e = refl
offset_stays (suc m) bs e = rw (e, zero-add) (offset_stays m bs e)

-- what is refused of m + n numbers, n above 0, is refused of the last n at their place
pub damage_add : (m n at : ℕ) (bs : List ℕ) → 0 < n → damage (m + n) at bs ≡ damage n (at + offset_after m bs) (drop (offset_after m bs) bs)
unfolding offset_after bytes_of
damage_add zero n at bs h = rw (zero-add, add-zero)
damage_add (suc m) n at bs h =
    let s : suc m + n ≡ suc (m + n) = omega arith in
    decoded (decode bs)
    (λ v k e. rw (s, damage_next (m + n) at v k bs e, e, ← drop-drop, ← add_assoc) (damage_add m n (at + k) (drop k bs) h))
    (λ e.
    let z : n ≡ suc (n - 1) = omega arith in
    rw (s, damage_here (m + n) at bs e, e, zero-add, offset_stays m bs e, add-zero, z) (sym (damage_here (n - 1) at bs e)))

-- the first of some numbers that stand at the front
pub first_number : (ns rest : List ℕ) → Narrow ns → 0 < length ns → value_of (decode (encode_all ns ++ rest)) ≡ get_or ns 0 0
unfolding offset_after
first_number ns rest w l = sym (values_at (length ns) 0 (encode_all ns ++ rest) l) ∙ ap (λ (v : List ℕ). get_or v 0 0) (values_back ns rest w)
