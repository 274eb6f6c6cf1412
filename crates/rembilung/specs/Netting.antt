-- What document 02, request 8, asks of netting over part of the face, about what the whole call returns and leaves; that of a job is job/specs/Netting.antt.
-- Assumes nothing.
use Rattle.std.specs.Prelude.{◌≤◌, ◌≡◌, List, ℕ, ◌++◌, length, drop}
use Rattle.basis.specs.Refusal.{nothing}
use Rattle.job.specs.Job.{job_of}
use Rattle.job.specs.Netting.{examination_before, Below30}
use Rattle.groups.specs.Decode.{Bytes}
use Rattle.groups.specs.Rows.{Holds}
use Rattle.jobfile.specs.Kind.{scaffold}
use Rattle.rembilung.specs.Call.{call_code, call_buffer}
use Rattle.rembilung.specs.Table.{SheetStands, report_of, Answers}

-- the whole call answered before: the sheet stood, the file was that of a job that was accepted, and the buffer had room for its report
pub record AnsweredBefore (sheet file out ns : List ℕ) : Type 0 where
  pub sheet_stands : SheetStands sheet
  pub holds : Holds 25 file ns
  pub accepted : examination_before (job_of ns) ≡ nothing
  pub room : length (report_of scaffold sheet ns) ≤ length out

pub record Netting : Type 0 where
  -- what was answered is answered the same, with the report of the same judgement
  pub same : (sheet file out ns : List ℕ) → Bytes file → AnsweredBefore sheet file out ns
      → (call_code sheet file out ≡ length (report_of scaffold sheet ns)) × (call_buffer sheet file out ≡ report_of scaffold sheet ns ++ drop (length (report_of scaffold sheet ns)) out)
  -- what is answered and was not is of a half closed face shielded below 30 %
  pub newly : (sheet file out ns : List ℕ) → Answers scaffold sheet file out ns → (AnsweredBefore sheet file out ns → ⊥) → Below30 (job_of ns)
