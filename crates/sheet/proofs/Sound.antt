-- Of a sheet that falls from at most 1,000 to at least 117 nothing is refused.
-- Assumes nothing.
use mathlib.Core.Bool.{true, ◌&&◌}
use mathlib.Core.Path.{◌≡◌, refl, sym}
use mathlib.Core.Logic.{◌⊎◌, inl, inr}
use mathlib.Core.List.{List}
use Prim.Native.Nat.{ℕ, zero, suc, ◌+◌, ◌-◌, ◌≤◌, ◌<◌}
use native.Mathlib.Nat.{le_trans, eq-or-lt_of_le}
use native.Mathlib.Numerals.{add-one}
use native.Mathlib.Omega.{arith}
use lib.Dec.{T, leb, leb→le, lit≤}
use lib.ListN.{length, get_or}
use Rattle.basis.specs.Refusal.{nothing}
use Rattle.basis.proofs.Tests.{holds, both_left, both_right}
use Rattle.sheet.specs.Sheet.{examination}
use Rattle.sheet.specs.Rows.{Faulty}
use Rattle.sheet.specs.Pass.{falling, sound}
use Rattle.sheet.proofs.Rows.{told}
use Rattle.sheet.proofs.Falls.{falls_from}

-- of no entries, and of one more
pub falling_none : (s : List ℕ) → falling s 0 ≡ true
unfolding falling
falling_none s = refl

pub falling_next : (s : List ℕ) (n : ℕ) → falling s (n + 1) ≡ (falling s n && leb (get_or s (n + 1) 0) (get_or s n 0))
unfolding falling
falling_next s n = rw add-one refl

falling_at : (s : List ℕ) (n : ℕ) → T (falling s n) → (k : ℕ) → suc k ≤ n → get_or s (suc k) 0 ≤ get_or s k 0
unfolding falling
falling_at s zero t k l = absurd (omega arith)
falling_at s (suc n) t k l = go (falling_at s n (both_left (falling s n) _ t) k) (eq-or-lt_of_le l)
  where
    go : (suc k ≤ n → get_or s (suc k) 0 ≤ get_or s k 0) → (suc k ≡ suc n) ⊎ (suc k < suc n) → get_or s (suc k) 0 ≤ get_or s k 0
    go ih (inl e) = let f : k ≡ n = omega arith in rw f (leb→le (get_or s (suc n) 0) (get_or s n 0) (both_right (falling s n) _ t))
    go ih (inr u) = ih (omega arith)

module _ (s : List ℕ) (h : T (sound s)) where
  starts : get_or s 0 0 ≤ 1000
  starts = leb→le (get_or s 0 0) 1000 (both_left (leb (get_or s 0 0) 1000) _ h)

  rest : T (leb 117 (get_or s 250 0) && falling s 250)
  rest = both_right (leb (get_or s 0 0) 1000) _ h

  ends : 117 ≤ get_or s 250 0
  ends = leb→le 117 (get_or s 250 0) (both_left (leb 117 (get_or s 250 0)) (falling s 250) rest)

  next : (k : ℕ) → suc k ≤ 250 → get_or s (suc k) 0 ≤ get_or s k 0
  next = falling_at s 250 (both_right (leb 117 (get_or s 250 0)) (falling s 250) rest)

  most : (k : ℕ) → k ≤ 250 → get_or s k 0 ≤ 1000
  most k l = le_trans (falls_from s 250 next {i = 0} (omega arith) l) starts

  least : (k : ℕ) → k ≤ 250 → 117 ≤ get_or s k 0
  least k l = le_trans ends (falls_from s 250 next l (lit≤ tt))

  no_fault : (k : ℕ) → k ≤ 250 → Faulty s k → ⊥
  no_fault k l (Faulty.zero e) = omega (arith, least k l)
  no_fault k l (Faulty.great u) = omega (arith, most k l)
  no_fault k l (Faulty.rises p u) = let e : suc (k - 1) ≡ k = omega arith in omega (arith, rw e at (next (k - 1) (omega arith)))
  no_fault k l (Faulty.low e u) = omega (arith, least k l)

  -- as the code finds it
  unrefused : length s ≡ 251 → examination s ≡ nothing
  unrefused l = (told.told s).none (record { long = l; entries = no_fault })

pub sound_unrefused : (s : List ℕ) → length s ≡ 251 → true ≡ sound s → examination s ≡ nothing
sound_unrefused s l e = unrefused s (holds (sym e)) l
