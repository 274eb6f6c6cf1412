-- `Columns::put_column` meets its contract. Assumes nothing.
use mathlib.Core.Path.{◌∙◌, ap}
use native.Mathlib.Omega.{arith}
use Rattle.bookfile.proofs.Numbers.{place_none}
use Rattle.bookfile.proofs.Steps.{step_value, step_place}
use Rattle.bookfile.proofs.Filling.{put_none, put_next}
use Rattle.bookfile.proofs.places.Columns.put_column.Goals as goal

pub loop-row-init : goal.loop-row-init
loop-row-init c = (place_none _ _, put_none _ _ _)

pub loop-row-preserved : goal.loop-row-preserved
loop-row-preserved c =
    let l = c.loop-row in
    let p = c.requires in
    let h = c.loop-row-test.true in
    let e = c.sound_step-step.ensures in (
      ap (λ s. s.next) e ∙ step_place _ _ _ _ l.invariant.0,
      put_next l.row _ _ _ _ _ l.invariant.1 p.1 (omega (arith, p.0, p.1, h, l.invariant.1.long)) (ap (λ s. s.value) e ∙ step_value _ _ _ _ _ l.invariant.0 h),
    )
