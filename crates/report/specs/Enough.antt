-- The lengths that are enough: no report of an accepted job is longer, and none of an accepted support.
-- Assumes nothing.
use Rattle.std.specs.Prelude.{ℕ, ◌≤◌, List, length}
use Rattle.job.specs.declared.Job.{Job}
use Rattle.job.specs.Rows as Job
use Rattle.support.specs.declared.Support.{Support}
use Rattle.support.specs.Rows as Support
use Rattle.section5.specs.Section5 as Section5
use Rattle.section5.specs.Formwork as Formwork
use Rattle.report.specs.Report.{report}

-- 129 for the lines of the checks, 17 for the heights, 20 for the wind and 12 for the column
abbrev pub enough : ℕ
enough = 178

-- of a support: 95 for the lines of the checks, 20 for the wind and 12 for the column
abbrev pub support_enough : ℕ
support_enough = 127

pub record Enough : Type 0 where
  pub no_longer : (sheet : List ℕ) (j : Job) → Job.Stands j → length (report (Section5.judgement j sheet)) ≤ enough
  pub support_no_longer : (sheet : List ℕ) (s : Support) → Support.Stands s → length (report (Formwork.judgement s sheet)) ≤ support_enough
