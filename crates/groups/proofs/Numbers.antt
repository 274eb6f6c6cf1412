-- One number: what was written reads back, and what was read writes back.
-- Assumes nothing.
use Rattle.std.specs.Prelude.{Option, Some, None}
use Prim.Native.Nat.{ℕ, zero, suc, ◌+◌, ◌*◌, ◌/◌, ◌%◌, ◌^◌, ◌≤◌, ◌<◌}
use mathlib.Core.Path.{◌≡◌, ◌∙◌, refl, sym, ap}
use mathlib.Core.List.{List, [], ◌∷◌, ◌++◌}
use mathlib.Core.Bool.{false}
use native.Mathlib.Numerals.{add-one}
use native.Mathlib.Nat.{pos_of_ne-zero}
use native.Mathlib.Omega.{arith}
use lib.Dec.{ltb, eqb}
use lib.ListN.{length, take, drop, take-append-drop}
use borrow.Author.Tests.{lt-ltb, le-ltb, ltb-true, ltb-false, ne_eqb, eqb-false}
use Rattle.basis.proofs.Tests.{cases}
use Rattle.groups.specs.Encode.{groups, encode}
use Rattle.groups.specs.Decode.{Bytes, later_groups, last_group, extend, limit, decode}
use Rattle.groups.proofs.Encode.{cap, groups_one}

last_is : (n : ℕ) → 0 < n → last_group n ≡ Some (n, 1)
unfolding last_group
last_is n h = simp (ne_eqb n 0 (λ e. omega arith))

-- a number, put together from its first group and what stands above it
joined : (n : ℕ) → n / 128 * 128 + (n % 128 + 128) % 128 ≡ n
joined n = omega arith

-- a byte with its top bit set
top : (n : ℕ) → ltb (n % 128 + 128) 128 ≡ false
top n = le-ltb (n % 128 + 128) 128 (omega arith)

-- the groups of a number above 0, read back
later_back : (f n : ℕ) (rest : List ℕ) → 0 < n → n < cap f → later_groups f (groups f n ++ rest) ≡ Some (n, (length (groups f n)))
unfolding groups later_groups cap extend
later_back zero n rest p h = rw (lt-ltb n 128 h) (last_is n p)
later_back (suc f) n rest p h =
    cases (ltb n 128) (λ t. rw (t, t) (last_is n p))
    (λ t.
    let l : 128 ≤ n = ltb-false n 128 t in
    rw (t, top n, later_back f (n / 128) rest (omega arith) (omega arith), joined n, add-one))

-- `decode` after `encode`
pub number_back : (n : ℕ) (rest : List ℕ) → n < 2 ^ 32 → decode (encode n ++ rest) ≡ Some (n, (length (encode n)))
unfolding encode groups decode extend limit cap
number_back n rest h =
    cases (ltb n 128) (λ t. rw (t, t))
    (λ t.
    let l : 128 ≤ n = ltb-false n 128 t in
    rw (t, top n, later_back 3 (n / 128) rest (omega arith) (omega arith), joined n, lt-ltb n 4294967296 h, add-one))

-- the first k bytes are the groups of v, which is above 0
record Read (f v k : ℕ) (bs : List ℕ) : Type 0 where
  same : take k bs ≡ groups f v
  above : 0 < v

pub differ : {v k : ℕ} {A : Type 0} → ◌≡◌ {A = Option (ℕ × ℕ)} None (Some (v, k)) → A
differ e = cc

-- the value and the bytes of one number
same : {v k v' k' : ℕ} → ◌≡◌ {A = Option (ℕ × ℕ)} (Some (v, k)) (Some (v', k')) → (v ≡ v') × (k ≡ k')
same {v} {k} {v'} {k'} e = let p : ◌≡◌ {A = ℕ × ℕ} (v, k) (v', k') = cc in (ap (λ (q : ℕ × ℕ). q.0) p, ap (λ (q : ℕ × ℕ). q.1) p)

one_group : (f b v k : ℕ) (bs : List ℕ) → b < 128 → ◌≡◌ {A = Option (ℕ × ℕ)} (Some (b, 1)) (Some (v, k)) → take k (b ∷ bs) ≡ groups f v
one_group f b v k bs h e =
    let s = same e in
    rw (← s.1, ← s.0, groups_one f b h)

read_last : (f b v k : ℕ) (bs : List ℕ) → b < 128 → last_group b ≡ Some (v, k) → Read f v k (b ∷ bs)
unfolding last_group
read_last f b v k bs h e = cases (eqb b 0) (λ t. differ (rw t at e)) (λ t. found (pos_of_ne-zero (eqb-false b 0 t)) (rw t at e))
  where
    found : 0 < b → ◌≡◌ {A = Option (ℕ × ℕ)} (Some (b, 1)) (Some (v, k)) → Read f v k (b ∷ bs)
    found p e = record { same = one_group f b v k bs h e; above = rw ((same e).0) at p }

read_more : (f b v k : ℕ) (bs : List ℕ) (p : Option (ℕ × ℕ)) → 128 ≤ b → b < 256
    → ((v' k' : ℕ) → p ≡ Some (v', k') → Read f v' k' bs) → extend b p ≡ Some (v, k) → Read (suc f) v k (b ∷ bs)
unfolding extend groups
read_more f b v k bs None l h ih e = differ e
read_more f b v k bs (Some (v', k')) l h ih e =
    let r = ih v' k' refl in
    let ve : v' * 128 + b % 128 ≡ v = (same e).0 in
    let ke : k' + 1 ≡ k = (same e).1 in
    let a : 0 < v' = r.above in
    let t : 128 ≤ v = omega arith in
    let d : v / 128 ≡ v' = omega arith in
    let m : v % 128 + 128 ≡ b = omega arith in
    record { same = rw (le-ltb v 128 t, d, m, ← ke, add-one, r.same); above = omega arith }

-- the groups read are the groups of the number
later_read : (f v k : ℕ) (bs : List ℕ) → Bytes bs → later_groups f bs ≡ Some (v, k) → Read f v k bs
unfolding later_groups
later_read zero v k [] w e = differ e
later_read (suc f) v k [] w e = differ e
later_read zero v k (b ∷ bs) w e =
    cases (ltb b 128) (λ t. read_last zero b v k bs (ltb-true b 128 t) (rw t at e)) (λ t. differ (rw t at e))
later_read (suc f) v k (b ∷ bs) w e =
    cases (ltb b 128) (λ t. read_last (suc f) b v k bs (ltb-true b 128 t) (rw t at e))
    (λ t. read_more f b v k bs (later_groups f bs) (ltb-false b 128 t) (w 0) (λ v' k' r. later_read f v' k' bs (λ i. w (suc i)) r) (rw t at e))

limit_is : (p : Option (ℕ × ℕ)) (v k : ℕ) → limit p ≡ Some (v, k) → p ≡ Some (v, k)
unfolding limit
limit_is (Some (v', k')) v k e = cases (ltb v' 4294967296) (λ t. rw t at e) (λ t. differ (rw t at e))
limit_is None v k e = differ e

-- `encode` after `decode`: only the shortest form is read
pub number_read : (v k : ℕ) (bs : List ℕ) → Bytes bs → decode bs ≡ Some (v, k) → take k bs ≡ encode v
unfolding decode encode
number_read v k [] w e = differ e
number_read v k (b ∷ bs) w e =
    cases (ltb b 128) (λ t. one_group 4 b v k bs (ltb-true b 128 t) (rw t at e))
    (λ t. (read_more 3 b v k bs (later_groups 3 bs) (ltb-false b 128 t) (w 0) (λ v' k' r. later_read 3 v' k' bs (λ i. w (suc i)) r) (limit_is _ v k (rw t at e))).same)

-- so the bytes are that number's, and then the rest
pub number_front : (v k : ℕ) (bs : List ℕ) → Bytes bs → decode bs ≡ Some (v, k) → bs ≡ encode v ++ drop k bs
number_front v k bs w e = sym (take-append-drop k bs) ∙ ap (λ (x : List ℕ). x ++ drop k bs) (number_read v k bs w e)
