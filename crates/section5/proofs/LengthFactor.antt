-- The length factor's table grows along spacing and tie interval, and so does the factor.
-- Assumes nothing.
use mathlib.Core.Path.{◌≡◌, refl}
use mathlib.Core.Bool.{Bool, true, false, cond}
use Prim.Native.Nat.{ℕ, suc, ◌≤◌, ◌<◌, zero-le}
use native.Mathlib.Nat.{le_refl}
use native.Mathlib.Omega.{arith}
use lib.Dec.{T, leb, ltb, eqb, leb→le, lit≤}
use borrow.Author.Tests.{ltb-true, ltb-false}
use Rattle.basis.specs.Search.{first_fail, every}
use Rattle.basis.proofs.Tests.{cond_below}
use Rattle.basis.proofs.Searches.{every_at}
use Rattle.basis.proofs.Fits.{lt_below}
use Rattle.section5.specs.Section5.{factors, factor_at, family_place, spacing_row, tie_column, length_factor}

-- the table grows along its rows and its columns: one test, computed
table_grows : T (every (λ f. every (λ r'. every (λ c'. every (λ r. every (λ c. leb (factor_at f r c) (factor_at f r' c')) (suc c')) (suc r')) 2) 3) 2)
unfolding every first_fail factor_at factors
table_grows = tt

factor_at_grows : (f r r' c c' : ℕ) → f < 2 → r ≤ r' → r' < 3 → c ≤ c' → c' < 2 → factor_at f r c ≤ factor_at f r' c'
factor_at_grows f r r' c c' hf hr hr' hc hc' =
    leb→le (factor_at f r c) (factor_at f r' c')
    (every_at _ (suc c') (every_at _ (suc r') (every_at _ 2 (every_at _ 3 (every_at _ 2 table_grows f hf) r' hr') c' hc') r (omega arith)) c (omega arith))

table_most : T (every (λ f. every (λ r. every (λ c. leb (factor_at f r c) 200) 2) 3) 2)
unfolding every first_fail factor_at factors
table_most = tt

pub factor_at_most : (f r c : ℕ) → f < 2 → r < 3 → c < 2 → factor_at f r c ≤ 200
factor_at_most f r c hf hr hc = leb→le (factor_at f r c) 200 (every_at _ 2 (every_at _ 3 (every_at _ 2 table_most f hf) r hr) c hc)

-- a choice by a threshold
step_grows : (n : ℕ) {a b o p q : ℕ} → a ≤ b → o ≤ q → p ≤ q → cond (ltb a n) o p ≤ cond (ltb b n) o q
step_grows n {a} {b} {o} {p} {q} l h k = go (ltb a n) (ltb b n) refl refl
  where
    go : (s t : Bool) → ltb a n ≡ s → ltb b n ≡ t → cond s o p ≤ cond t o q
    go true true e f = le_refl o
    go true false e f = h
    go false true e f = absurd (omega (arith, ltb-false a n e, ltb-true b n f))
    go false false e f = k

spacing_row_grows : (f : ℕ) {a b : ℕ} → a ≤ b → spacing_row f a ≤ spacing_row f b
spacing_row_grows f {a} {b} l = go (eqb f 1)
  where
    go : (t : Bool) → cond t (cond (ltb a 130) 0 (cond (ltb a 155) 1 2)) 0 ≤ cond t (cond (ltb b 130) 0 (cond (ltb b 155) 1 2)) 0
    go true = step_grows 130 l zero-le (step_grows 155 l (lit≤ tt) (le_refl 2))
    go false = le_refl 0

pub spacing_row_most : (f a : ℕ) → spacing_row f a < 3
spacing_row_most f a = lt_below 2 tt (cond_below (eqb f 1) (cond_below (ltb a 130) zero-le (cond_below (ltb a 155) (lit≤ tt) (le_refl 2))) zero-le)

pub family_place_most : (f : ℕ) → family_place f < 2
family_place_most f = lt_below 1 tt (cond_below (eqb f 1) zero-le (le_refl 1))

pub tie_column_most : (t : ℕ) → tie_column t < 2
tie_column_most t = lt_below 1 tt (cond_below (ltb t 3) zero-le (le_refl 1))

pub length_factor_most : (family lb ties : ℕ) → length_factor family lb ties ≤ 200
unfolding length_factor
length_factor_most family lb ties = factor_at_most _ _ _ (family_place_most family) (spacing_row_most family lb) (tie_column_most ties)

pub length_factor_grows : {family family' : ℕ} {lb lb' ties ties' : ℕ} → family ≡ family' → lb ≤ lb' → ties ≤ ties' → length_factor family lb ties ≤ length_factor family' lb' ties'
unfolding length_factor
length_factor_grows {family' = family} {lb' = lb} {ties' = ties} e l t =
    rw e
    (factor_at_grows (family_place family) _ _ _ _ (family_place_most family) (spacing_row_grows family l) (spacing_row_most family lb)
    (step_grows 3 t zero-le (le_refl 1)) (tie_column_most ties))
