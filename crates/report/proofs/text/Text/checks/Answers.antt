-- `Text::checks` meets its contract. Assumes nothing.
use mathlib.Core.Path.{ap}
use native.Mathlib.Omega.{arith}
use lib.ListN.{length}
use borrow.Author.Rules.{rules}
use Rattle.report.proofs.Put.{unfinished_room, unfinished_next}
use Rattle.report.proofs.CheckLines.{lines_next}
use Rattle.report.proofs.text.Text.checks.Goals as goal

pub check-requires : goal.check-requires
check-requires c =
    let s = c.in-Some.ensures.steps in
    let u = rw (← s.0.0, lines_next _ s.1.0 s.1.1) at c.loop-check.invariant.2 in
    rw c.from.ensures (unfinished_room _ u c.requires)

pub loop-check-preserved : goal.loop-check-preserved
loop-check-preserved c =
    let s = c.in-Some.ensures.steps in
    let n = ap length s.1.0 in
    let u = rw (← s.0.0, lines_next _ s.1.0 s.1.1) at c.loop-check.invariant.2 in
    (search rules, tt, rw s.0.1 (unfinished_next _ u (rw c.from.ensures at c.check.ensures)), omega (arith, s.0.0, s.0.1, n, c.loop-check.invariant.3))
