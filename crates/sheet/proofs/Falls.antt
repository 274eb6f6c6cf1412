-- A sheet that stands has 251 entries that fall, from at most 1,000 to at least 117; its stability factor weakens as the slenderness grows.
-- Assumes nothing.
use mathlib.Core.Path.{◌≡◌, refl, ap}
use mathlib.Core.Bool.{Bool, true, false, cond}
use mathlib.Core.List.{List}
use Prim.Native.Nat.{ℕ, zero, suc, ◌+◌, ◌*◌, ◌-◌, ◌%◌, ◌≤◌, ◌<◌}
use native.Mathlib.Nat.{add-zero, add-suc, le_refl, le_trans, mul-le-mul, mul-le-mul_left, mul-le-mul_right, add-sub_of_le}
use native.Mathlib.Omega.{arith}
use lib.ListN.{get_or}
use lib.Dec.{ltb, leb, lit<, lit≤}
use borrow.Author.Tests.{ltb-true, ltb-false, leb-true, leb-false, lt-leb}
use Rattle.basis.proofs.Tests.{cases}
use Rattle.sheet.specs.Rows.{Faulty, Stands}
use Rattle.sheet.specs.StabilityFactor.{below, above, between, line, over, under, Weaker, Weakens}

-- where none of the entries up to m is greater than the one before it, a later one is no greater
pub falls_from : (s : List ℕ) (m : ℕ) → ((k : ℕ) → suc k ≤ m → get_or s (suc k) 0 ≤ get_or s k 0) → {i k : ℕ} → i ≤ k → k ≤ m → get_or s k 0 ≤ get_or s i 0
falls_from s m next {i} {k} l u = rw (add-sub_of_le l) at (after (k - i) i (omega (arith, add-sub_of_le l)))
  where
    after : (n i : ℕ) → i + n ≤ m → get_or s (i + n) 0 ≤ get_or s i 0
    after zero i l = rw add-zero (le_refl (get_or s i 0))
    after (suc n) i l = rw add-suc (le_trans (next (i + n) (omega arith)) (after n i (omega arith)))

-- r tenths of the way from a down to b: from 10 a to 10 b, falling
between_most : (a b r : ℕ) → r ≤ 10 → b ≤ a → between a b r ≤ 10 * a
between_most a b r l h = let e : 10 - r + r ≡ 10 = omega arith in omega (arith, mul-le-mul_right r h, ap (λ (x : ℕ). a * x) e)

between_least : (a b r : ℕ) → r ≤ 10 → b ≤ a → 10 * b ≤ between a b r
between_least a b r l h = let e : 10 - r + r ≡ 10 = omega arith in omega (arith, mul-le-mul_right (10 - r) h, ap (λ (x : ℕ). b * x) e)

between_falls : (a b : ℕ) {r r' : ℕ} → r ≤ r' → r' ≤ 10 → b ≤ a → between a b r' ≤ between a b r
between_falls a b {r} {r'} l u h =
    let d : 10 - r ≡ 10 - r' + (r' - r) = omega arith in
    let c : r' ≡ r + (r' - r) = omega arith in
    omega (arith, mul-le-mul_right (r' - r) h, ap (λ (x : ℕ). a * x) d, ap (λ (x : ℕ). b * x) c)

-- above 250.0 the whole number is at least 251
under_least : (z : ℕ) → 2500 < z → 251 * 251 ≤ under z
unfolding under
under_least z l = let m : 251 ≤ above z = omega arith in rw (lt-leb z 2500 l) (mul-le-mul m m)

module _ (s : List ℕ) (h : Stands s) where
  entry_pos : (k : ℕ) → k ≤ 250 → 0 < get_or s k 0
  entry_pos k l = cases (ltb 0 (get_or s k 0)) (ltb-true 0 (get_or s k 0)) (λ t. let u = ltb-false 0 (get_or s k 0) t in absurd (h.entries k l (Faulty.zero (omega arith))))

  pub entry_most : (k : ℕ) → k ≤ 250 → get_or s k 0 ≤ 1000
  entry_most k l = cases (leb (get_or s k 0) 1000) (leb-true (get_or s k 0) 1000) (λ t. absurd (h.entries k l (Faulty.great (leb-false (get_or s k 0) 1000 t))))

  pub entry_last : 117 ≤ get_or s 250 0
  entry_last = cases (leb 117 (get_or s 250 0)) (leb-true 117 (get_or s 250 0)) (λ t. absurd (h.entries 250 (lit≤ tt) (Faulty.low refl (leb-false 117 (get_or s 250 0) t))))

  entry_next : (k : ℕ) → suc k ≤ 250 → get_or s (suc k) 0 ≤ get_or s k 0
  entry_next k l =
      let e : suc k - 1 ≡ k = omega arith in
      cases (leb (get_or s (suc k) 0) (get_or s k 0)) (leb-true (get_or s (suc k) 0) (get_or s k 0))
      (λ t. absurd (h.entries (suc k) l (Faulty.rises (omega arith) (rw e (leb-false (get_or s (suc k) 0) (get_or s k 0) t)))))

  pub entry_falls : {i k : ℕ} → i ≤ k → k ≤ 250 → get_or s k 0 ≤ get_or s i 0
  entry_falls = falls_from s 250 entry_next

  -- the line lies between ten times the entry above and ten times the entry below
  line_most : (z : ℕ) → z ≤ 2500 → line s z ≤ 10 * get_or s (below z) 0
  unfolding line
  line_most z l = between_most _ _ (z % 10) (omega arith) (entry_falls (omega arith) (omega arith))

  line_least : (z : ℕ) → z ≤ 2500 → 10 * get_or s (above z) 0 ≤ line s z
  unfolding line
  line_least z l = between_least _ _ (z % 10) (omega arith) (entry_falls (omega arith) (omega arith))

  line_pos : (z : ℕ) → z ≤ 2500 → 0 < line s z
  line_pos z l = omega (arith, line_least z l, entry_pos (above z) (omega arith))

  -- between the same two entries
  line_within : {z z' : ℕ} → z ≤ z' → z' ≤ 2500 → below z' < above z → line s z' ≤ line s z
  unfolding line
  line_within {z} {z'} l u m =
      let b : below z' ≡ below z = omega arith in
      let a : above z' ≡ above z = omega arith in
      rw (a, b) (between_falls _ _ {r = z % 10} {r' = z' % 10} (omega arith) (omega arith) (entry_falls {i = below z} {k = above z} (omega arith) (omega arith)))

  -- across entries: one, or more, lies between the two
  line_across : (z z' : ℕ) → z' ≤ 2500 → above z ≤ below z' → line s z' ≤ line s z
  line_across z z' u m =
      le_trans (line_most z' u) (le_trans (mul-le-mul_left 10 (entry_falls m (omega arith))) (line_least z (omega arith)))

  line_falls : {z z' : ℕ} → z ≤ z' → z' ≤ 2500 → line s z' ≤ line s z
  line_falls {z} {z'} l u =
      cases (leb (above z) (below z')) (λ e. line_across z z' u (leb-true (above z) (below z') e)) (λ e. line_within l u (leb-false (above z) (below z') e))

  -- the stability factor is above 0, and at most 1
  pub stability_within : (z : ℕ) → (0 < over s z) × (over s z ≤ under z)
  unfolding over under
  stability_within z =
      cases (leb z 2500) (λ e. let l = leb-true z 2500 e in rw e (line_pos z l, omega (arith, line_most z l, entry_most (below z) (omega arith))))
      (λ e. (rw e (lit< tt), rw e (le_trans (lit≤ tt) (rw e at (under_least z (leb-false z 2500 e))))))

pub weakens : Weakens
unfolding over under
weakens = record { weaker = λ s h {z} {z'} l. go s h l (leb z 2500) (leb z' 2500) refl refl }
  where
    go : (s : List ℕ) → Stands s → {z z' : ℕ} → z ≤ z' → (p q : Bool) → leb z 2500 ≡ p → leb z' 2500 ≡ q
        → Weaker (cond p (line s z) 7320) (cond p 10000 (above z * above z)) (cond q (line s z') 7320) (cond q 10000 (above z' * above z'))
    go s h {z} {z'} l true true p q =
        let v = leb-true z' 2500 q in
        record { falls = mul-le-mul_right 10000 (line_falls s h l v); over = line_pos s h z' v; under = lit< tt }
    go s h {z} {z'} l true false p q =
        let w = rw q at (under_least z' (leb-false z' 2500 q)) in
        let u = leb-true z 2500 p in
        let e : 1170 ≤ line s z = omega (arith, entry_last s h, entry_falls s h {i = above z} {k = 250} (omega arith) (lit≤ tt), line_least s h z u) in
        record { falls = le_trans (lit≤ tt) (mul-le-mul e w); over = lit< tt; under = le_trans (lit≤ tt) w }
    go s h {z} {z'} l false true p q = absurd (omega (arith, leb-false z 2500 p, leb-true z' 2500 q))
    go s h {z} {z'} l false false p q =
        let m : above z ≤ above z' = omega arith in
        record { falls = mul-le-mul_left 7320 (mul-le-mul m m); over = lit< tt; under = le_trans (lit≤ tt) (rw q at (under_least z' (leb-false z' 2500 q))) }
