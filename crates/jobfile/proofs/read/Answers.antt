-- `read` meets its contract. Assumes nothing.
use Rattle.std.proofs.Common.{◌≡◌, Err, rules}
use mathlib.Core.Path.{refl, sym, ◌∙◌}
use Rattle.job.specs.Job.{job_of}
use Rattle.job.specs.Examine.{examination as job_examination}
use Rattle.support.specs.Support.{support_of}
use Rattle.support.specs.Examine.{examination as support_examination}
use Rattle.jobfile.specs.declared.FileJob.TheVariants.{Scaffold, Support}
use Rattle.jobfile.proofs.Reading.{read_cased, read_marked, read_unmarked}
use Rattle.jobfile.proofs.read.Goals as goal

pub returns-in_err-read_as : goal.returns-in_err-read_as
returns-in_err-read_as c =
    let r : c.from_residual.result ≡ Err c.in_err-read_as.field-0.0 = search rules in
    read_cased support_of support_examination Support 13 _ _ c.in_err-read_as.ensures r ∙ read_marked _ (sym c.marks_support.ensures ∙ c.if-marks_support.true)

pub returns-in_ok-read_as : goal.returns-in_ok-read_as
returns-in_ok-read_as c = read_cased support_of support_examination Support 13 _ _ c.in_ok-read_as.ensures refl ∙ read_marked _ (sym c.marks_support.ensures ∙ c.if-marks_support.true)

pub returns-in_err-read_as-2 : goal.returns-in_err-read_as-2
returns-in_err-read_as-2 c =
    let r : c.from_residual-in_err-read_as-2.result ≡ Err c.in_err-read_as-2.field-0.0 = search rules in
    read_cased job_of job_examination Scaffold 25 _ _ c.in_err-read_as-2.ensures r ∙ read_unmarked _ (sym c.marks_support.ensures ∙ c.if-marks_support.false)

pub returns-in_ok-read_as-2 : goal.returns-in_ok-read_as-2
returns-in_ok-read_as-2 c = read_cased job_of job_examination Scaffold 25 _ _ c.in_ok-read_as-2.ensures refl ∙ read_unmarked _ (sym c.marks_support.ensures ∙ c.if-marks_support.false)
