-- Laws of verdicts: a row as the code puts it together; one digit each; a 2 that stays a 2, in one place and in a row.
-- Assumes nothing.
use mathlib.Core.Path.{◌≡◌, refl}
use mathlib.Core.Bool.{Bool, true, false, cond}
use mathlib.Core.List.{List, [], ◌∷◌}
use Prim.Native.Nat.{ℕ, zero, suc, ◌<◌}
use native.Mathlib.Omega.{arith}
use lib.ListN.{get_or}
use lib.Dec.{T, leb, lit<}
use Rattle.basis.proofs.Tests.{Keeps}
use Rattle.job.specs.declared.Job.{Job}
use Rattle.section5.specs.declared.Heights.{Heights}
use Rattle.section5.specs.declared.Heights.TheVariants.{NoLine, Nowhere, Both}
use Rattle.section5.specs.Section5.{verdict}
use Rattle.calculation.specs.Parts.{Column, Effects}
use Rattle.calculation.specs.Whole.{check1, check2, check3, check4, check5, check6, bears, bends, check9, base_bears, ground_bears, verdict12, verdicts}

module _ (c : Column) (j : Job) (h : Heights) where
  -- the row, each place by its check, of the effects d, which are e
  pub rowed : {d e : Effects} {v1 v2 v3 v4 v5 v6 v7 due v8 v9 v10 v11 v12 : ℕ} {b7 b8 b10 : Bool}
      → d ≡ e → v1 ≡ verdict (check1 j) → v2 ≡ verdict (check2 j) → v3 ≡ verdict (check3 j) → v4 ≡ verdict (check4 j) → v5 ≡ verdict (check5 j) → v6 ≡ verdict (check6 j)
      → b7 ≡ bears c d.n → v7 ≡ verdict b7 → b8 ≡ bends c d.nw d.mw → due ≡ verdict b8 → v8 ≡ cond d.not_due 0 due → v9 ≡ verdict (check9 j e.wk)
      → b10 ≡ base_bears d.n → v10 ≡ verdict b10 → v11 ≡ verdict (ground_bears j.soil j.strength j.pad e.n)
      → v12 ≡ verdict12 j.height h
      → v1 ∷ v2 ∷ v3 ∷ v4 ∷ v5 ∷ v6 ∷ v7 ∷ v8 ∷ v9 ∷ v10 ∷ v11 ∷ v12 ∷ [] ≡ verdicts c j e.wk e.mw e.n e.nw e.not_due h
  unfolding verdicts
  rowed is e1 e2 e3 e4 e5 e6 t7 e7 t8 ed e8 e9 t10 e10 e11 e12 = rw (e1, e2, e3, e4, e5, e6, e7, t7, e8, ed, t8, e9, e10, t10, e11, e12, is)

pub verdict_digit : (b : Bool) → verdict b < 10
verdict_digit true = lit< tt
verdict_digit false = lit< tt

pub height_digit : (height : ℕ) (h : Heights) → verdict12 height h < 10
height_digit height NoLine = lit< tt
height_digit height Nowhere = lit< tt
height_digit height (Both H permitted) = verdict_digit (leb height permitted)

pub due_digit : (c b : Bool) → cond c 0 (verdict b) < 10
due_digit true b = lit< tt
due_digit false b = verdict_digit b

-- a verdict 2, fails, stays
pub fails : {p q : Bool} → Keeps p q → verdict p ≡ 2 → verdict q ≡ 2
fails {p} {q} f e = go p q f.keep e
  where
    go : (p q : Bool) → (T q → T p) → verdict p ≡ 2 → verdict q ≡ 2
    go p false f e = refl
    go true true f e = e
    go false true f e = absurd (f tt)

-- the same where a verdict may be 0, not due
pub fails_due : {c d p q : Bool} → Keeps c d → Keeps p q → cond c 0 (verdict p) ≡ 2 → cond d 0 (verdict q) ≡ 2
fails_due {c} {d} {p} {q} f g e = go c d f.keep e
  where
    go : (c d : Bool) → (T d → T c) → cond c 0 (verdict p) ≡ 2 → cond d 0 (verdict q) ≡ 2
    go true d f e = absurd (omega arith)
    go false true f e = absurd (f tt)
    go false false f e = fails g e

-- where the first row has a 2, so has the second
pub data Worse : List ℕ → List ℕ → Type 0 where
  none : Worse [] []
  next : {a b : ℕ} {l m : List ℕ} → (a ≡ 2 → b ≡ 2) → Worse l m → Worse (a ∷ l) (b ∷ m)

pub worse_at : {l m : List ℕ} → Worse l m → (i : ℕ) → get_or l i 0 ≡ 2 → get_or m i 0 ≡ 2
worse_at none i e = e
worse_at (next f w) zero e = f e
worse_at (next f w) (suc i) e = worse_at w i e
