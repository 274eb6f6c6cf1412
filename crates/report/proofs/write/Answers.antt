-- `write` meets its contract. Assumes nothing.
use native.Mathlib.Omega.{arith}
use lib.Dec.{leb→le}
use borrow.Author.Rules.{rules}
use Rattle.basis.proofs.Refusals.{passed}
use Rattle.report.specs.Report.{report}
use Rattle.report.proofs.Put.{put_front}
use Rattle.report.proofs.Ways.{done}
use Rattle.report.proofs.write.Goals as goal

pub returns-clause-buffer : goal.returns-clause-buffer
returns-clause-buffer c =
    let fits = leb→le _ _ (passed _ _ c.ensure.ensures c.in_ok-ensure.was) in
    let f = put_front (omega arith) c.new-text.ensures.begin c.new-text.ensures.same c.report.ensures in search (rules, (done (report c.args.g) c.args.out.now f.0 (omega arith) f.1).1)
