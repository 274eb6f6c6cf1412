-- Reading groups from the lowest on gives what the definition gives, which starts from the highest.
-- Assumes nothing.
use Rattle.std.specs.Prelude.{Option, Some, None}
use mathlib.Core.Path.{◌≡◌, refl, sym}
use mathlib.Core.List.{List, [], ◌∷◌}
use Prim.Native.Nat.{ℕ, zero, suc, ◌+◌, ◌*◌, ◌%◌, ◌^◌, ◌≤◌, ◌<◌}
use native.Mathlib.Nat.{le_refl, mul-le-mul}
use native.Mathlib.Numerals.{add-one, unary_clauses}
use native.Mathlib.Omega.{arith}
use lib.ListN.{length}
use borrow.Author.Tests.{lt-ltb, le-ltb}
use Rattle.groups.specs.Decode.{later_groups, last_group, extend}
use Rattle.groups.specs.LowFirst.{after}

-- after c groups of the value v, the rest of a number of which at most n groups are left
unfoldable pub resumed : ℕ → ℕ → ℕ → ℕ → List ℕ → Option (ℕ × ℕ)
resumed v w c zero bs = None
resumed v w c (suc f) bs = after v w c (later_groups f bs)

after_first : (b : ℕ) (p : Option (ℕ × ℕ)) → after (b % 128) 128 1 p ≡ extend b p
unfolding after extend
after_first b (Some (x, k)) = let e : b % 128 + x * 128 ≡ x * 128 + b % 128 = omega arith in let f : 1 + k ≡ k + 1 = omega arith in rw (e, f)
after_first b None = refl

after_next : (v w c b : ℕ) (p : Option (ℕ × ℕ)) → after v w c (extend b p) ≡ after (v + b % 128 * w) (w * 128) (c + 1) p
unfolding after extend
after_next v w c b (Some (x, k)) =
    let e : v + (x * 128 + b % 128) * w ≡ v + b % 128 * w + x * (w * 128) = omega arith in
    let f : c + (k + 1) ≡ c + 1 + k = omega arith in
    rw (e, f)
after_next v w c b None = refl

pub resumed_first : (b : ℕ) (bs : List ℕ) → resumed (b % 128) 128 1 4 bs ≡ extend b (later_groups 3 bs)
unfolding resumed
resumed_first b bs = after_first b (later_groups 3 bs)

pub resumed_end : (v w c n : ℕ) (bs : List ℕ) → (0 < n → length bs ≡ 0) → resumed v w c n bs ≡ None
unfolding resumed after later_groups
resumed_end v w c zero bs h = refl
resumed_end v w c (suc zero) [] h = refl
resumed_end v w c (suc (suc f)) [] h = refl
resumed_end v w c (suc f) (b ∷ bs) h = let z : suc (length bs) ≡ 0 = h (omega arith) in absurd (omega arith)

last_alone : (v w c f b : ℕ) (bs : List ℕ) → b < 128 → resumed v w c (suc f) (b ∷ bs) ≡ after v w c (last_group b)
unfolding resumed later_groups
last_alone v w c zero b bs l = rw (lt-ltb b 128 l)
last_alone v w c (suc f) b bs l = rw (lt-ltb b 128 l)

one_more : (v w c f b : ℕ) (bs : List ℕ) → 128 ≤ b → resumed v w c (suc f) (b ∷ bs) ≡ resumed (v + b % 128 * w) (w * 128) (c + 1) f bs
unfolding resumed later_groups after
one_more v w c zero b bs l = rw (le-ltb b 128 l)
one_more v w c (suc f) b bs l = rw (le-ltb b 128 l, after_next)

-- where the next byte is g, the group at index i, and c groups of the later ones were read
module _ (v w f : ℕ) {c i n g b : ℕ} {rest bs : List ℕ} (d : i ≡ c) (h : g ≡ b) (m : f + 1 ≡ n) (e : rest ≡ b ∷ bs) where
  pub resumed_last : g < 128 → after v w (i + 1) (last_group g) ≡ resumed v w (c + 1) n rest
  resumed_last l = let k : n ≡ suc f = omega arith in rw (d, e, k, ← h) (sym (last_alone v w (c + 1) f g bs l))

  pub resumed_more : {c' : ℕ} → c' ≡ c + 1 → 128 ≤ g → resumed (v + g % 128 * w) (w * 128) (c' + 1) f bs ≡ resumed v w (c + 1) n rest
  resumed_more t l = let k : n ≡ suc f = omega arith in rw (t, e, k, ← h) (sym (one_more v w (c + 1) f g bs l))

-- a group's share of the number fits
pub value_next : (v w g : ℕ) → v < w → v + g % 128 * w < w * 128
value_next v w g h = let l : g % 128 ≤ 127 = omega arith in omega (arith, mul-le-mul l (le_refl w))

pub weight_next : (c : ℕ) → 128 ^ c * 128 ≡ 128 ^ (c + 1)
weight_next c = rw add-one (simp unary_clauses)
