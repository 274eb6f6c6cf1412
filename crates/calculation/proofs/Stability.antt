-- Laws of the stability height: as a search, as a count, and as a quotient.
-- Assumes nothing.
use mathlib.Core.Path.{◌≡◌, refl, ap, sym, ◌∙◌}
use mathlib.Core.Bool.{Bool, true, false, ◌&&◌, ◌||◌, cond}
use mathlib.Core.Logic.{◌↔◌}
use Prim.Native.Nat.{ℕ, zero, suc, ◌+◌, ◌*◌, ◌-◌, ◌/◌, ◌≤◌, ◌<◌, min, zero-le}
use native.Mathlib.Nat.{le_trans, min-le_left, min-le_right, le-min, mul-pos, add-sub_of_le, le_of_mul-le-mul_left, le-div_iff_mul-le}
use native.Mathlib.Omega.{arith}
use lib.Dec.{T, leb, leb→le, le→leb, lit<}
use borrow.Author.Tests.{leb-true, leb-false, le-leb, lt-leb}
use Rattle.basis.specs.Search.{top}
use Rattle.basis.specs.Figure.{Is}
use Rattle.basis.specs.Fraction.{ceil}
use Rattle.basis.proofs.Order.{ceil_le}
use Rattle.basis.proofs.Fits.{is_most}
use Rattle.basis.proofs.Tests.{cases, same, leb_same, both_left, both_right, both_make, cond_below}
use Rattle.basis.proofs.Searches.{top_is, top_le}
use Rattle.section5.specs.Section5.{greatest}
use Rattle.section5.specs.declared.Heights.TheVariants.{Both}
use Rattle.calculation.specs.Parts.{Load, Column}
use Rattle.calculation.specs.Whole.{raised, force, force_wind, bears, bends, poles, height_count, from_count, permitted, heights}
use Rattle.calculation.specs.Division.{limit7, limit8, count_up_to, count7, count8}
use Rattle.calculation.specs.Bounded.{Proper}

-- the greatest number up to n at which a test passes, by a count
pub greatest_top : (p : ℕ → Bool) (n : ℕ) → greatest p n ≡ from_count (top p (suc n))
unfolding greatest top
greatest_top p zero = go (p zero) refl
  where
    go : (b : Bool) → p zero ≡ b → greatest p zero ≡ from_count (top p (suc zero))
    go true e = rw (e, greatest, top)
    go false e = rw (e, greatest, top)
greatest_top p (suc n) = go (p (suc n)) refl (greatest_top p n)
  where
    go : (b : Bool) → p (suc n) ≡ b → greatest p n ≡ from_count (top p (suc n)) → greatest p (suc n) ≡ from_count (top p (suc (suc n)))
    go true e ih = rw (e, greatest, top)
    go false e ih = rw (e, greatest, top) ih

-- ---- the limits of checks 7 and 8 as quotients

module _ (c : Column) (s : Proper c) (n : ℕ) where
  under_pos : 0 < c.under
  under_pos = le_trans s.over_pos s.at_most_one

  bears_limit : bears c n ≡ leb n (limit7 c)
  unfolding bears limit7
  bears_limit = leb_same (λ h. (le-div_iff_mul-le under_pos).1 h) (λ h. (le-div_iff_mul-le under_pos).0 h)

  bends_limit : (m : ℕ) → bends c n m ≡ (leb m (205 * c.modulus) && leb n (limit8 c m))
  unfolding bends limit8
  bends_limit m = go c.over c.under c.area c.modulus s.over_pos under_pos s.area_pos s.modulus_pos
    where
      go : (o u a w : ℕ) → 0 < o → 0 < u → 0 < a → 0 < w
          → leb (n * u * w + m * o * a) (205 * o * a * w) ≡ (leb m (205 * w) && leb n (o * a * (205 * w - m) / (u * w)))
      go o u a w po pu pa pw =
          same (leb (n * u * w + m * o * a) (205 * o * a * w)) (leb m (205 * w) && leb n (o * a * (205 * w - m) / (u * w))) (there, back)
        where
          there : T (leb (n * u * w + m * o * a) (205 * o * a * w)) → T (leb m (205 * w) && leb n (o * a * (205 * w - m) / (u * w)))
          there t =
              let h : n * u * w + m * o * a ≤ 205 * o * a * w = leb→le (n * u * w + m * o * a) (205 * o * a * w) t in
              let b : o * a * m ≤ o * a * (205 * w) = omega arith in
              let room : m ≤ 205 * w = le_of_mul-le-mul_left b (mul-pos po pa) in
              let e : m + (205 * w - m) ≡ 205 * w = add-sub_of_le room in
              let g : n * (u * w) ≤ o * a * (205 * w - m) = omega (arith, ap (λ (x : ℕ). o * a * x) e) in
              both_make (leb m (205 * w)) (leb n (o * a * (205 * w - m) / (u * w))) (le→leb m (205 * w) room)
              (le→leb n (o * a * (205 * w - m) / (u * w)) ((le-div_iff_mul-le (mul-pos pu pw)).1 g))

          back : T (leb m (205 * w) && leb n (o * a * (205 * w - m) / (u * w))) → T (leb (n * u * w + m * o * a) (205 * o * a * w))
          back t =
              let room : m ≤ 205 * w = leb→le m (205 * w) (both_left (leb m (205 * w)) (leb n (o * a * (205 * w - m) / (u * w))) t) in
              let q : n ≤ o * a * (205 * w - m) / (u * w) = leb→le n (o * a * (205 * w - m) / (u * w)) (both_right (leb m (205 * w)) (leb n (o * a * (205 * w - m) / (u * w))) t) in
              let g : n * (u * w) ≤ o * a * (205 * w - m) = (le-div_iff_mul-le (mul-pos pu pw)).0 q in
              let e : m + (205 * w - m) ≡ 205 * w = add-sub_of_le room in
              le→leb (n * u * w + m * o * a) (205 * o * a * w) (omega (arith, ap (λ (x : ℕ). o * a * x) e))

  -- as the code decides them
  pub bears_within : leb n (limit7 c) ≡ bears c n
  bears_within = sym bears_limit

  pub bends_within : (m : ℕ) → m ≤ 205 * c.modulus → leb n (limit8 c m) ≡ bends c n m
  bends_within m l = sym (bends_limit m ∙ simp (le-leb m (205 * c.modulus) l))

  pub bends_beyond : (m : ℕ) → 205 * c.modulus < m → false ≡ bends c n m
  bends_beyond m l = sym (bends_limit m ∙ simp (lt-leb m (205 * c.modulus) l))

-- ---- the heights below a limit

count_up_to_iff : (c k b H : ℕ) → 0 < k → H < 6001 → (c + k * H ≤ b) ↔ (H < count_up_to c k b)
count_up_to_iff c k b H p l = cases (leb c b) (λ t. rw t (inside (leb-true c b t))) (λ t. rw t (λ h. absurd (omega (arith, leb-false c b t)), λ h. absurd (omega arith)))
  where
    inside : c ≤ b → (c + k * H ≤ b) ↔ (H < min 6001 ((b - c) / k + 1))
    inside e =
        let room : c + (b - c) ≡ b = add-sub_of_le e in (
          λ h. let q : H ≤ (b - c) / k = (le-div_iff_mul-le p).1 (omega arith) in le-min l (omega arith),
          λ h. let q : H * k ≤ b - c = (le-div_iff_mul-le p).0 (omega (arith, min-le_right 6001 ((b - c) / k + 1))) in omega arith,
        )

count_up_to_most : (c k b : ℕ) → count_up_to c k b ≤ 6001
count_up_to_most c k b = cond_below (leb c b) (min-le_left 6001 ((b - c) / k + 1)) zero-le

module _ (c : Column) (s : Proper c) (l : Load) (w : ℕ) (p : 0 < w) (m : ℕ) (H : ℕ) (h : H < 6001) where
  count7_iff : T (bears c (force (raised l w H))) ↔ (H < count7 c l w)
  unfolding force
  count7_iff =
      let n : ℕ = 12 * (200 * w * H + l.dead) + 14 * l.live in
      let b : ℕ = limit7 c in
      let r = count_up_to_iff (12 * l.dead + 14 * l.live) (2400 * w) (200000 * b) H (mul-pos (lit< tt) p) h in
      rw (bears_limit c s (ceil n 200000)) (
        λ t. r.0 (let q = (ceil_le n 200000 b (lit< tt)).0 (leb→le (ceil n 200000) b t) in omega arith),
        λ h. le→leb (ceil n 200000) b ((ceil_le n 200000 b (lit< tt)).1 (let q = r.1 h in omega arith)),
      )

  count8_iff : T (bends c (force_wind (raised l w H)) m) ↔ (H < count8 c l w m)
  unfolding force_wind
  count8_iff =
      let n : ℕ = 120 * (200 * w * H + l.dead) + 119 * l.live in
      let b : ℕ = limit8 c m in
      let r = count_up_to_iff (120 * l.dead + 119 * l.live) (24000 * w) (2000000 * b) H (mul-pos (lit< tt) p) h in
      rw (bends_limit c s (ceil n 2000000) m)
      (cases (leb m (205 * c.modulus)) (λ e. rw e (
        λ t. r.0 (let q = (ceil_le n 2000000 b (lit< tt)).0 (leb→le (ceil n 2000000) b t) in omega arith),
        λ h. le→leb (ceil n 2000000) b ((ceil_le n 2000000 b (lit< tt)).1 (let q = r.1 h in omega arith)),
      ))
      (λ e. rw e (λ t. absurd t, λ h. absurd (omega arith))))

  -- the pole checks pass exactly below the lesser of the two counts
  poles_iff : (exempt : Bool) → T (poles c l w m exempt H) ↔ (H < min (count7 c l w) (cond exempt 6001 (count8 c l w m)))
  unfolding poles
  poles_iff exempt =
      let b7 : Bool = bears c (force (raised l w H)) in
      let b8 : Bool = bends c (force_wind (raised l w H)) m in (
        λ t. le-min (count7_iff.0 (both_left b7 (exempt || b8) t)) (due exempt (both_right b7 (exempt || b8) t)),
        λ k. both_make b7 (exempt || b8) (count7_iff.1 (le_trans k (min-le_left (count7 c l w) (cond exempt 6001 (count8 c l w m)))))
            (passes exempt (le_trans k (min-le_right (count7 c l w) (cond exempt 6001 (count8 c l w m))))),
      )
    where
      due : (e : Bool) → T (e || bends c (force_wind (raised l w H)) m) → H < cond e 6001 (count8 c l w m)
      due true t = h
      due false t = count8_iff.0 t

      passes : (e : Bool) → H < cond e 6001 (count8 c l w m) → T (e || bends c (force_wind (raised l w H)) m)
      passes true k = tt
      passes false k = count8_iff.1 k

-- the count of heights at which the pole checks pass, as a quotient
pub height_count_is : (c : Column) → Proper c → (l : Load) (w : ℕ) → 0 < w → (m : ℕ) (exempt : Bool) → height_count c l w m exempt ≡ min (count7 c l w) (cond exempt 6001 (count8 c l w m))
unfolding height_count
height_count_is c s l w p m exempt =
    top_is (poles c l w m exempt) 6001 (min (count7 c l w) (cond exempt 6001 (count8 c l w m)))
    (le_trans (min-le_left (count7 c l w) (cond exempt 6001 (count8 c l w m))) (count_up_to_most _ _ _))
    (λ H h. poles_iff c s l w p m H h exempt)

pub height_count_most : (c : Column) (l : Load) (w m : ℕ) (exempt : Bool) → height_count c l w m exempt ≤ 6001
unfolding height_count
height_count_most c l w m exempt = top_le (poles c l w m exempt) 6001

-- the same by its two cases, check 8 due or not, as a figure
pub height_count_calm : (c : Column) → Proper c → (l : Load) (w : ℕ) → 0 < w → (m : ℕ) {exempt : Bool} {r : ℕ} → exempt ≡ true → r ≡ count7 c l w → Is r (height_count c l w m exempt) 6001
height_count_calm c s l w p m e f =
    let h = height_count_is c s l w p m true in
    let u : count7 c l w ≤ 6001 = count_up_to_most _ _ _ in
    is_most 6001 tt (height_count_most c l w m _) (rw e (omega arith))

pub height_count_due : (c : Column) → Proper c → (l : Load) (w : ℕ) → 0 < w → (m : ℕ) {exempt : Bool} {r : ℕ} → exempt ≡ false → r ≡ min (count7 c l w) (count8 c l w m) → Is r (height_count c l w m exempt) 6001
height_count_due c s l w p m e f = is_most 6001 tt (height_count_most c l w m _) (rw e (f ∙ sym (height_count_is c s l w p m false)))

-- a count above 0 has heights
pub heights_at : (family n : ℕ) → (n ≡ 0 → ⊥) → heights family n ≡ Both (n - 1) (permitted family (n - 1))
heights_at family zero h = absurd (h refl)
heights_at family (suc n) h = let e : suc n - 1 ≡ n = omega arith in rw e
