-- Many numbers: what was written reads back, and what was read writes back.
-- Assumes nothing.
use Prim.Native.Nat.{ℕ, zero, suc, ◌+◌}
use mathlib.Core.Path.{◌≡◌, refl, ap}
use mathlib.Core.List.{List, [], ◌∷◌, ◌++◌, append_assoc}
use native.Mathlib.Nat.{add-zero, zero-add, add_assoc}
use native.Mathlib.Omega.{arith}
use lib.ListN.{length, drop, length-append, length-replicate, take-append-drop}
use lib.Seq.{drop-append_seam, get_or-drop}
use Rattle.basis.specs.Refusal.{nothing}
use Rattle.groups.specs.Encode.{encode, encode_all}
use Rattle.groups.specs.Decode.{Bytes, decode}
use Rattle.groups.specs.Numbers.{extra, damage, values}
use Rattle.groups.specs.Rows.{Narrow}
use Rattle.groups.proofs.Decode.{decoded}
use Rattle.groups.proofs.Numbers.{number_back, number_read}
use Rattle.groups.proofs.Reading.{damage_next, values_next, damage_here, values_here}

-- the bytes of some numbers, read back: what is refused of those and k more is refused of the k after them
pub damage_after : (ns : List ℕ) (k at : ℕ) (rest : List ℕ) → Narrow ns → damage (length ns + k) at (encode_all ns ++ rest) ≡ damage k (at + length (encode_all ns)) rest
unfolding encode_all
damage_after [] k at rest w = rw (zero-add, add-zero)
damage_after (n ∷ ns) k at rest w =
    let s : suc (length ns) + k ≡ suc (length ns + k) = omega arith in
    rw (s, append_assoc, length-append, ← add_assoc, damage_next (length ns + k) at n (length (encode n)) (encode n ++ (encode_all ns ++ rest)) (number_back n _ w.0), drop-append_seam)
    (damage_after ns k (at + length (encode n)) rest w.1)

-- and of those alone, of what follows them
pub damage_back : (ns : List ℕ) (at : ℕ) (rest : List ℕ) → Narrow ns → damage (length ns) at (encode_all ns ++ rest) ≡ extra (at + length (encode_all ns)) rest
unfolding damage
damage_back ns at rest w = rw add-zero at (damage_after ns 0 at rest w)

pub values_back : (ns rest : List ℕ) → Narrow ns → values (length ns) (encode_all ns ++ rest) ≡ ns
unfolding encode_all values
values_back [] rest w = refl
values_back (n ∷ ns) rest w =
    rw (append_assoc, values_next (length ns) n (length (encode n)) (encode n ++ (encode_all ns ++ rest)) (number_back n _ w.0), drop-append_seam)
    (ap (λ (t : List ℕ). n ∷ t) (values_back ns rest w.1))

-- as many numbers as were asked for
pub values_long : (n : ℕ) (bs : List ℕ) → length (values n bs) ≡ n
unfolding values
values_long zero bs = refl
values_long (suc n) bs =
    decoded (decode bs) (λ v k e. rw (values_next n v k bs e) (ap suc (values_long n (drop k bs))))
    (λ e. rw (values_here n bs e) (length-replicate (suc n) 0))

-- bytes of which nothing is refused are those of the numbers read
pub all_read : (n at : ℕ) (bs : List ℕ) → Bytes bs → damage n at bs ≡ nothing → encode_all (values n bs) ≡ bs
unfolding damage values encode_all extra
all_read zero at [] w e = refl
all_read zero at (b ∷ bs) w e = absurd (cc)
all_read (suc n) at bs w e =
    decoded (decode bs)
    (λ v k f.
    let t = all_read n (at + k) (drop k bs) (λ i. rw get_or-drop (w (k + i))) (rw (damage_next n at v k bs f) at e) in
    rw (values_next n v k bs f, t, ← number_read v k bs w f) (take-append-drop k bs))
    (λ f. let z = rw (damage_here n at bs f) at e in absurd (cc))
