-- Each check keeps its failure: those of a force with what they rest on, and all from a job to a harsher one.
-- Assumes nothing.
use mathlib.Core.Path.{◌≡◌, refl, ap, sym}
use mathlib.Core.Bool.{Bool, true, false, cond}
use mathlib.Core.List.{List}
use Prim.Native.Nat.{ℕ, zero, suc, ◌*◌, ◌≤◌, ◌<◌}
use native.Mathlib.Nat.{le_refl, le_of_eq, mul-le-mul, mul-le-mul_left}
use native.Mathlib.Omega.{arith}
use lib.Dec.{T, eqb, lit<}
use Rattle.basis.specs.Fraction.{◌≼◌}
use Rattle.basis.proofs.Tests.{Keeps, both_keep, either_keep, le_keep, eq_keep}
use Rattle.basis.proofs.Searches.{top_mono}
use Rattle.job.specs.declared.Job.{Job}
use Rattle.job.specs.Bounds.{Bounds}
use Rattle.sheet.specs.Rows.{Stands}
use Rattle.sheet.specs.StabilityFactor.{over, under, Weaker}
use Rattle.sheet.proofs.Falls.{weakens}
use Rattle.section5.specs.Section5.{soil_factor}
use Rattle.section5.specs.Harsher.{Harsher}
use Rattle.calculation.specs.Whole.{area, modulus, radius, stiffness, slender_limit, wk, mw, deck_load, load, force, force_wind, column_at, column_of, check1, check2, check3, check4, check5, check6, bears, bends, not_due, check9, base_bears, ground_bears, verdict12, verdicts, heights, poles, height_count, count}
use Rattle.calculation.proofs.Verdicts.{fails, fails_due, Worse, none, next}
use Rattle.calculation.proofs.Limits.{deflects_keep, bears_keep, bends_keep}
use Rattle.calculation.proofs.Permitted.{permitted_grows}
use Rattle.calculation.proofs.Growth.{factor_grows, column_slenderness_grows, force_grows, force_wind_grows, mw_grows, transom_moment_grows, transom_load_grows, ledger_moment_grows, ledger_load_grows, slip_grows, face_grows, tie_force_grows, capacity_falls}

area_pos : (t : ℕ) → 0 < area t
area_pos t = go (eqb t 1)
  where
    go : (b : Bool) → 0 < cond b 489 452
    go true = lit< tt
    go false = lit< tt

-- 7 and 8 of a greater force (with a greater moment) on a column of the same tube that is no less slender
module _ (s : List ℕ) (f : Stands s) {tube tube' z z' : ℕ} (e : tube ≡ tube') (l : z ≤ z') where
  weaker : Weaker (over s z) (under z) (over s z') (under z')
  weaker = weakens.weaker s f l

  pub bears_kept : {n n' : ℕ} → n ≤ n' → Keeps (bears (column_at s tube z) n) (bears (column_at s tube' z') n')
  bears_kept p = bears_keep (column_at s tube z) (column_at s tube' z') weaker (ap area e) p

  pub bends_kept : {n n' m m' : ℕ} → n ≤ n' → m ≤ m' → Keeps (bends (column_at s tube z) n m) (bends (column_at s tube' z') n' m')
  bends_kept p q = bends_keep (column_at s tube z) (column_at s tube' z') weaker (ap area e) (area_pos tube') (ap modulus e) p q

-- 10 and 11
pub base_kept : {n n' : ℕ} → n ≤ n' → Keeps (base_bears n) (base_bears n')
base_kept l = le_keep l (le_refl 40000)

pub ground_kept : (soil soil' : ℕ) {strength strength' pad pad' n n' : ℕ} → T (soil_factor soil' ≼ soil_factor soil) → strength' ≤ strength → pad' ≤ pad → n ≤ n'
    → Keeps (ground_bears soil strength pad n) (ground_bears soil' strength' pad' n')
ground_kept soil soil' s p q l = le_keep (mul-le-mul_left 100 l) (capacity_falls soil soil' s p q)

module _ (s : List ℕ) {j k : Job} (h : Harsher j k) (b : Bounds k) (f : Stands s) where
  -- a limit that the tube or the family gives is one limit
  limit : (f : ℕ → ℕ) {m n : ℕ} → m ≡ n → f n ≤ f m
  limit f e = le_of_eq (ap f (sym e))

  keep1 : Keeps (check1 j) (check1 k)
  keep1 = le_keep (transom_moment_grows h) (limit (λ t. 205 * modulus t) h.tube)

  keep2 : Keeps (check2 j) (check2 k)
  keep2 = deflects_keep (transom_load_grows h) h.lb b.lb_pos (ap (λ t. 1536 * stiffness t) h.tube)

  keep3 : Keeps (check3 j) (check3 k)
  keep3 = le_keep (ledger_moment_grows h) (limit (λ t. 205 * modulus t) h.tube)

  keep4 : Keeps (check4 j) (check4 k)
  keep4 = deflects_keep (ledger_load_grows h) h.la b.la_pos (ap (λ t. 4000000 * stiffness t) h.tube)

  keep5 : Keeps (check5 j) (check5 k)
  keep5 = le_keep (slip_grows h) (le_refl 8000)

  keep6 : Keeps (check6 j) (check6 k)
  keep6 = le_keep (mul-le-mul (factor_grows h) h.step) (mul-le-mul (limit slender_limit h.family) (limit radius h.tube))

  keep7 : {n n' : ℕ} → n ≤ n' → Keeps (bears (column_of s j) n) (bears (column_of s k) n')
  unfolding column_of
  keep7 l = bears_kept s f h.tube (column_slenderness_grows h) l

  keep8 : {n n' : ℕ} → n ≤ n' → Keeps (bends (column_of s j) n (mw j)) (bends (column_of s k) n' (mw k))
  unfolding column_of
  keep8 l = bends_kept s f h.tube (column_slenderness_grows h) l (mw_grows h)

  keep_not_due : Keeps (not_due j) (not_due k)
  keep_not_due = both_keep (le_keep h.wind (le_refl 350)) (both_keep (eq_keep 1 h.enclosure) (le_keep (face_grows h) (le_refl 300000)))

  keep9 : Keeps (check9 j (wk j)) (check9 k (wk k))
  keep9 = le_keep (tie_force_grows h) h.capacity

  pub keep_poles : {H H' : ℕ} → H ≤ H' → Keeps (poles (column_of s j) (deck_load j) j.weight (mw j) (not_due j) H) (poles (column_of s k) (deck_load k) k.weight (mw k) (not_due k) H')
  unfolding poles load
  keep_poles l = both_keep (keep7 (force_grows h l)) (either_keep keep_not_due (keep8 (force_wind_grows h l)))

  -- the pole of a harsher job stands at no more heights
  pub count_falls : count s k ≤ count s j
  unfolding count height_count
  count_falls = top_mono _ _ (λ H. keep_poles (le_refl H)) 6001

  -- 12, of no more heights
  height_fails : {m n : ℕ} → n ≤ m → verdict12 j.height (heights j.family m) ≡ 2 → verdict12 k.height (heights k.family n) ≡ 2
  height_fails {m = m} {n = zero} l e = refl
  height_fails {m = zero} {n = suc H} l e = absurd (omega arith)
  height_fails {m = suc G} {n = suc H} l e = fails (le_keep h.height (permitted_grows (sym h.family) (omega arith))) e

  -- the row of a job at its own height
  abbrev pub row_of : Job → List ℕ
  row_of j = verdicts (column_of s j) j (wk j) (mw j) (force (load j j.height)) (force_wind (load j j.height)) (not_due j) (heights j.family (count s j))

  pub worse : Worse (row_of j) (row_of k)
  unfolding verdicts
  worse =
      next (fails keep1)
      (next (fails keep2)
      (next (fails keep3)
      (next (fails keep4)
      (next (fails keep5)
      (next (fails keep6)
      (next (fails (keep7 (force_grows h h.height)))
      (next (fails_due keep_not_due (keep8 (force_wind_grows h h.height)))
      (next (fails keep9)
      (next (fails (base_kept (force_grows h h.height)))
      (next (fails (ground_kept j.soil k.soil h.soil h.strength h.pad (force_grows h h.height)))
      (next (height_fails count_falls)
      none)))))))))))
