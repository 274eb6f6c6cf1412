-- What judging answers, and the parts of a judgement as the code works them out.
-- Assumes nothing.
use mathlib.Core.Path.{◌≡◌, sym, ap, ◌∙◌}
use mathlib.Core.List.{List}
use Prim.Native.Nat.{ℕ}
use Rattle.std.specs.Prelude.{Ok}
use Rattle.basis.specs.Refusal.{first}
use Rattle.basis.proofs.Refusals.{first_nothing}
use Rattle.basis.proofs.Rows.{then_rest}
use Rattle.job.specs.declared.Job.{Job}
use Rattle.job.specs.Rows.{Stands as JobStands}
use Rattle.job.proofs.Rows as Job
use Rattle.sheet.specs.Rows.{Stands as SheetStands}
use Rattle.sheet.proofs.Rows as Sheet
use Rattle.section5.specs.declared.Heights.{Heights}
use Rattle.section5.specs.Section5.{judgement}
use Rattle.calculation.specs.Parts.{Load, Column, Effects}
use Rattle.calculation.specs.Whole as W
use Rattle.calculation.proofs.Same.{judgement_same}
use Rattle.judge.specs.Answer.{Accepted, answer}

module _ (s : List ℕ) (j : Job) where
  pub sheet_stands : Accepted s j → SheetStands s
  sheet_stands a = Sheet.unrefused_stands s (first_nothing _ _ a).0

  pub job_stands : Accepted s j → JobStands j
  job_stands a = Job.unrefused_stands j (first_nothing _ _ a).1

  pub stands_accepted : SheetStands s → JobStands j → Accepted s j
  stands_accepted a b = then_rest ((Sheet.told).told s) _ a ∙ ((Job.told).told j).none b

  pub accepted_answer : Accepted s j → answer s j ≡ Ok (judgement j s)
  accepted_answer a = ap (λ e. first e (Ok (judgement j s))) a

  -- the parts of a judgement, as the code works them out from the job k, which is j, the slenderness y, which is z, and the effects d and d', which are e
  pub assembled : {k : Job} {z y count : ℕ} {c : Column} {d d' e : Effects} {deck : Load} {v f : List ℕ} {h : Heights}
      → k ≡ j → d ≡ e → d' ≡ e → e ≡ W.effects j → y ≡ z → z ≡ W.column_slenderness j → c ≡ W.column_at s k.tube z → deck ≡ W.deck_load j
      → count ≡ W.height_count c deck k.weight d.mw d.not_due → h ≡ W.heights k.family count
      → v ≡ W.verdicts c j e.wk e.mw e.n e.nw e.not_due h → f ≡ W.figures j e.wk e.n e.nw h
      → record { verdicts = v; figures = f; heights = h; wk = d'.wk; mw = d'.mw; z = y } ≡ judgement j s
  unfolding W.judgement W.column_of W.count W.effects
  assembled ek ei ei' ee ey ez ec ed eo eh ev ef = rw (ev, ef, eh, eo, ec, ed, ey, ez, ek, ei, ei', ee) (sym (judgement_same j s))
