-- What judging a support answers, and the parts of a judgement as the code works them out.
-- Assumes nothing.
use mathlib.Core.Path.{◌≡◌, sym, ap, ◌∙◌}
use mathlib.Core.Bool.{Bool}
use mathlib.Core.List.{List, [], ◌∷◌}
use Prim.Native.Nat.{ℕ}
use Rattle.std.specs.Prelude.{Ok}
use Rattle.basis.specs.Refusal.{first}
use Rattle.basis.proofs.Refusals.{first_nothing}
use Rattle.basis.proofs.Rows.{then_rest}
use Rattle.support.specs.declared.Support.{Support}
use Rattle.support.specs.Rows.{Stands as SupportStands}
use Rattle.support.proofs.Rows as Support
use Rattle.sheet.specs.Rows.{Stands as SheetStands}
use Rattle.sheet.proofs.Rows as Sheet
use Rattle.section5.specs.declared.Heights.TheVariants.{NoLine}
use Rattle.section5.specs.Section5.{verdict}
use Rattle.section5.specs.Formwork.{judgement}
use Rattle.calculation.specs.Parts.{Load, Column, Effects}
use Rattle.calculation.specs.Whole as C
use Rattle.formwork.specs.Whole as W
use Rattle.formwork.specs.Answer.{Accepted, answer}
use Rattle.formwork.proofs.Same.{judgement_same}

module _ (sheet : List ℕ) (s : Support) where
  pub sheet_stands : Accepted sheet s → SheetStands sheet
  sheet_stands a = Sheet.unrefused_stands sheet (first_nothing _ _ a).0

  pub stands_accepted : SheetStands sheet → SupportStands s → Accepted sheet s
  stands_accepted a b = then_rest ((Sheet.told).told sheet) _ a ∙ ((Support.told).told s).none b

  pub accepted_answer : Accepted sheet s → answer sheet s ≡ Ok (judgement s sheet)
  accepted_answer a = ap (λ e. first e (Ok (judgement s sheet))) a

  -- the parts of a judgement, as the code works them out from the support t, which is s, the slenderness y, which is z, and the effects d, which are e
  pub assembled : {t : Support} {z y : ℕ} {c : Column} {load : Load} {d e : Effects} {v : List ℕ}
      → t ≡ s → e.wk ≡ W.wk s → e.mw ≡ C.wind_moment e.wk t.bay t.step → y ≡ z → z ≡ W.column_slenderness s → c ≡ C.column_at sheet t.tube z → load ≡ W.load s
      → e.n ≡ C.force load → e.nw ≡ C.force_wind load → d ≡ e → v ≡ W.verdicts c s e.mw e.n e.nw
      → record { verdicts = v; figures = 0 ∷ 0 ∷ 0 ∷ 0 ∷ 0 ∷ 0 ∷ d.n ∷ d.nw ∷ 0 ∷ d.n ∷ d.n ∷ 0 ∷ []; heights = NoLine; wk = d.wk; mw = d.mw; z = y } ≡ judgement s sheet
  unfolding W.judgement W.mw W.column_of W.figures
  assembled et ew em ey ez ec el en enw ei ev = rw (ei, ev, en, enw, el, ec, ey, ez, em, ew, et) (sym (judgement_same s sheet))

module _ (c : Column) (m n nw : ℕ) where
  -- the row, each place by its check, of the support t, which is s
  pub rowed : {s t : Support} {v7 v8 v10 v11 : ℕ} {b7 b8 b10 b11 : Bool}
      → t ≡ s → b7 ≡ C.bears c n → v7 ≡ verdict b7 → b8 ≡ C.bends c nw m → v8 ≡ verdict b8
      → b10 ≡ C.base_bears n → v10 ≡ verdict b10 → b11 ≡ C.ground_bears t.soil t.strength t.pad n → v11 ≡ verdict b11
      → 0 ∷ 0 ∷ 0 ∷ 0 ∷ 0 ∷ 0 ∷ v7 ∷ v8 ∷ 0 ∷ v10 ∷ v11 ∷ 0 ∷ [] ≡ W.verdicts c s m n nw
  unfolding W.verdicts
  rowed et t7 e7 t8 e8 t10 e10 t11 e11 = rw (e7, t7, e8, t8, e10, t10, e11, t11, et)
