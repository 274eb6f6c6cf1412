-- `Text::pair` meets its contract. Assumes nothing.
use Rattle.report.specs.Report.{pair}
use Rattle.report.proofs.Put.{put_then}
use Rattle.report.proofs.text.Text.pair.Goals as goal

pub returns : goal.returns
returns c = unfold pair in put_then c.number.ensures c.number-2.ensures
