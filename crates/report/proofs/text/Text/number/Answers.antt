-- `Text::number` meets its contract. The invariant: with the digits of the rest before what is stored, the number stands. Assumes nothing.
use mathlib.Core.Path.{◌∙◌}
use native.Mathlib.Omega.{arith}
use lib.ListN.{length-set}
use Rattle.report.proofs.Digits.{more_length}
use Rattle.report.proofs.Numbers.{last_stored}
use Rattle.report.proofs.text.Text.number.Goals as goal

pub loop-rest-preserved : goal.loop-rest-preserved
loop-rest-preserved c =
    let i = c.loop-rest.invariant in
    let e = more_length _ c.loop-rest-test.true in
    record {
      stored = rw i.digits (last_stored _ _ _ c.loop-rest-test.true) ∙ i.stored;
      begin = i.begin;
      lent = i.lent;
      digits = omega arith;
      within = omega arith;
      fits = rw length-set i.fits;
    }
