-- Laws of `encode`: one group, one group more, and how many.
-- Assumes nothing.
use Rattle.std.specs.Prelude.{sum_by}
use Rattle.std.proofs.lemmas.List.Sums.{sum_by-cons}
use Prim.Native.Nat.{ℕ, zero, suc, ◌+◌, ◌*◌, ◌/◌, ◌%◌, ◌^◌, ◌≤◌, ◌<◌}
use mathlib.Core.Path.{◌≡◌, ◌∙◌, refl, sym, ap}
use mathlib.Core.Bool.{cond}
use mathlib.Core.List.{List, [], ◌∷◌, ◌++◌}
use native.Mathlib.Numerals.{add-one}
use native.Mathlib.Omega.{arith}
use lib.Dec.{ltb, leb}
use lib.ListN.{length, drop, get_or, length-append, length-drop, drop_of_length-le}
use lib.Seq.{drop-cons}
use borrow.Author.Tests.{lt-ltb, le-ltb, ltb-true, lt-leb, leb-true, leb-false}
use Rattle.basis.proofs.Tests.{cases}
use Rattle.groups.specs.Encode.{groups, encode, encode_all}
use Rattle.groups.specs.Decode.{Bytes}
use Rattle.groups.specs.Rows.{Narrow}

-- numbers of at most f groups before the last are below this
unfoldable pub cap : ℕ → ℕ
cap zero = 128
cap (suc f) = 128 * cap f

pub cap_least : (f : ℕ) → 128 ≤ cap f
unfolding cap
cap_least zero = omega arith
cap_least (suc f) = omega (arith, cap_least f)

-- more room for groups changes nothing, once the number fits
stable : (f n : ℕ) → n < cap f → groups (suc f) n ≡ groups f n
unfolding groups cap
stable zero n h = simp (lt-ltb _ _ h)
stable (suc f) n h = rw (stable f (n / 128) (omega arith))

pub groups_one : (f n : ℕ) → n < 128 → groups f n ≡ n ∷ []
unfolding groups
groups_one zero n h = refl
groups_one (suc f) n h = simp (lt-ltb n 128 h)

pub encode_one : (n : ℕ) → n < 128 → encode n ≡ n ∷ []
unfolding encode
encode_one n h = groups_one 4 n h

pub encode_more : (n : ℕ) → n < 2 ^ 32 → 128 ≤ n → encode n ≡ (n % 128 + 128) ∷ encode (n / 128)
unfolding encode groups cap
encode_more n h k = rw (le-ltb _ _ k) (ap (λ (t : List ℕ). (n % 128 + 128) ∷ t) (sym (stable 3 (n / 128) (omega arith))))

-- a number has a group
pub encode_some : (n : ℕ) → 0 < length (encode n)
unfolding encode groups
encode_some n = cases (ltb n 128) (λ t. simp t (omega arith)) (λ t. simp t (omega arith))

-- where the groups from index k on are those of x, and x is its own last group
pub last_at : (s : List ℕ) (k x : ℕ) → drop k s ≡ encode x → k < length s → x < 128 → (get_or s k 0 ≡ x) × (length s ≡ suc k)
last_at s k x e h t =
    let d : get_or s k 0 ∷ drop (suc k) s ≡ x ∷ [] = sym (drop-cons s k 0 h) ∙ e ∙ encode_one x t in
    let z : drop (suc k) s ≡ [] = cc in
    (cc, omega (arith, length-drop (suc k) s, ap length z))

-- where they are those of x, and x has more than one group: the group at k, and the groups from k + 1 on
pub more_at : (s : List ℕ) (k x : ℕ) → drop k s ≡ encode x → k < length s → x < 2 ^ 32 → 128 ≤ x
    → (get_or s k 0 ≡ x % 128 + 128) × (drop (suc k) s ≡ encode (x / 128)) × (suc k < length s)
more_at s k x e h b t =
    let d : get_or s k 0 ∷ drop (suc k) s ≡ (x % 128 + 128) ∷ encode (x / 128) = sym (drop-cons s k 0 h) ∙ e ∙ encode_more x b t in
    let z : drop (suc k) s ≡ encode (x / 128) = cc in
    (cc, z, omega (arith, length-drop (suc k) s, ap length z, encode_some (x / 128)))

groups_few : (f n : ℕ) → length (groups f n) ≤ suc f
unfolding groups
groups_few zero n = omega arith
groups_few (suc f) n = cases (ltb n 128) (λ t. simp t (omega arith)) (λ t. simp t (omega (arith, groups_few f (n / 128))))

-- a number that f groups before the last can hold has no more of them
groups_short : (g f n : ℕ) → n < cap f → length (groups g n) ≤ suc f
unfolding groups cap
groups_short zero f n h = omega arith
groups_short (suc g) zero n h = simp (lt-ltb n 128 h) (omega arith)
groups_short (suc g) (suc f) n h =
    cases (ltb n 128) (λ t. simp t (omega arith)) (λ t. simp t (omega (arith, groups_short g f (n / 128) (omega arith))))

pub encode_short : (f n : ℕ) → n < cap f → length (encode n) ≤ suc f
unfolding encode
encode_short f n h = groups_short 4 f n h

-- and one that they cannot hold has more
encode_long : (f n : ℕ) → n < 2 ^ 32 → cap f ≤ n → suc (suc f) ≤ length (encode n)
unfolding cap
encode_long zero n h l = omega (arith, ap length (encode_more n h l), encode_some (n / 128))
encode_long (suc f) n h l =
    omega (arith, ap length (encode_more n h (omega (arith, cap_least f))), encode_long f (n / 128) (omega arith) (omega arith))

-- at most five groups
pub encode_few : (n : ℕ) → length (encode n) ≤ 5
unfolding encode
encode_few n = groups_few 4 n

-- so each bound that a number reaches is one group more
module _ (n : ℕ) (h : n < 2 ^ 32) where
  four : 2097152 ≤ n → 4 + cond (leb 268435456 n) 1 0 ≡ length (encode n)
  unfolding cap
  four l =
      cases (leb 268435456 n) (λ t. rw t (omega (arith, encode_long 3 n h (leb-true 268435456 n t), encode_few n)))
      (λ t. rw t (omega (arith, encode_long 2 n h l, encode_short 3 n (leb-false 268435456 n t))))

  three : 16384 ≤ n → 3 + cond (leb 2097152 n) 1 0 + cond (leb 268435456 n) 1 0 ≡ length (encode n)
  unfolding cap
  three l =
      cases (leb 2097152 n) (λ t. rw t (four (leb-true 2097152 n t)))
      (λ t. let u = leb-false 2097152 n t in rw (t, lt-leb 268435456 n (omega arith)) (omega (arith, encode_long 1 n h l, encode_short 2 n u)))

  two : 128 ≤ n → 2 + cond (leb 16384 n) 1 0 + cond (leb 2097152 n) 1 0 + cond (leb 268435456 n) 1 0 ≡ length (encode n)
  unfolding cap
  two l =
      cases (leb 16384 n) (λ t. rw t (three (leb-true 16384 n t)))
      (λ t.
      let u = leb-false 16384 n t in
      rw (t, lt-leb 2097152 n (omega arith), lt-leb 268435456 n (omega arith)) (omega (arith, encode_long 0 n h l, encode_short 1 n u)))

  pub encode_counted : 1 + cond (leb 128 n) 1 0 + cond (leb 16384 n) 1 0 + cond (leb 2097152 n) 1 0 + cond (leb 268435456 n) 1 0 ≡ length (encode n)
  encode_counted =
      cases (leb 128 n) (λ t. rw t (two (leb-true 128 n t)))
      (λ t.
      let u = leb-false 128 n t in
      rw (t, lt-leb 16384 n (omega arith), lt-leb 2097152 n (omega arith), lt-leb 268435456 n (omega arith)) (sym (ap length (encode_one n u))))

-- the bytes of some numbers, counted one number after the other
pub all_counted : (ns : List ℕ) → length (encode_all ns) ≡ sum_by (λ n. length (encode n)) ns
unfolding encode_all
all_counted [] = refl
all_counted (n ∷ ns) = rw (length-append, all_counted ns, sum_by-cons)

-- at most five bytes for each number
pub all_few : (ns : List ℕ) → length (encode_all ns) ≤ 5 * length ns
unfolding encode_all
all_few [] = omega arith
all_few (n ∷ ns) = simp length-append (omega (arith, encode_few n, all_few ns))

-- the bytes of some numbers of which those before index i are done
pub all_next : (ns : List ℕ) (i : ℕ) → i < length ns → encode_all (drop i ns) ≡ encode (get_or ns i 0) ++ encode_all (drop (i + 1) ns)
unfolding encode_all
all_next ns i h = rw (add-one, drop-cons ns i 0 h)

pub all_end : (ns : List ℕ) (i : ℕ) → length ns ≤ i → encode_all (drop i ns) ≡ []
unfolding encode_all
all_end ns i h = rw (drop_of_length-le ns h)

-- each group is a byte
bytes_cons : (b : ℕ) (bs : List ℕ) → b < 256 → Bytes bs → Bytes (b ∷ bs)
bytes_cons b bs l w zero = l
bytes_cons b bs l w (suc i) = w i

bytes_append : (a b : List ℕ) → Bytes a → Bytes b → Bytes (a ++ b)
bytes_append [] b v w = w
bytes_append (x ∷ a) b v w = bytes_cons x (a ++ b) (v 0) (bytes_append a b (λ i. v (suc i)) w)

groups_bytes : (f n : ℕ) → n < cap f → Bytes (groups f n)
unfolding groups cap
groups_bytes zero n h = bytes_cons n [] (omega arith) (λ i. omega arith)
groups_bytes (suc f) n h =
    cases (ltb n 128) (λ t. rw t (bytes_cons n [] (omega (arith, ltb-true n 128 t)) (λ i. omega arith)))
    (λ t. rw t (bytes_cons (n % 128 + 128) (groups f (n / 128)) (omega arith) (groups_bytes f (n / 128) (omega arith))))

pub bytes_all : (ns : List ℕ) → Narrow ns → Bytes (encode_all ns)
unfolding encode_all encode cap
bytes_all [] w = λ i. omega arith
bytes_all (n ∷ ns) w = bytes_append (encode n) (encode_all ns) (groups_bytes 4 n (omega (arith, w.0))) (bytes_all ns w.1)
