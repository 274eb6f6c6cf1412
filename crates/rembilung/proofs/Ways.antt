-- What the whole call answers and leaves where nothing is refused but for want of room.
-- Assumes nothing.
use mathlib.Core.Path.{◌≡◌, refl}
use mathlib.Core.List.{List}
use Prim.Native.Nat.{ℕ}
use lib.ListN.{length}
use borrow.Author.Tests.{eq-eqb}
use Rattle.std.specs.Prelude.{Ok, Err}
use Rattle.basis.specs.declared.Refusal.{Refusal}
use Rattle.basis.specs.Refusal.{nothing}
use Rattle.sheet.specs.Sheet.{examination}
use Rattle.jobfile.specs.Read.{job_in}
use Rattle.jobfile.specs.declared.FileJob.{FileJob}
use Rattle.rembilung.specs.Code.{written_code}
use Rattle.report.specs.Report.{report_written, report_left}
use Rattle.rembilung.specs.Call.{entries_of, judgement_in, call_answer, call_code, call_buffer}

module _ (sheet file out : List ℕ) {job : FileJob} (l : length sheet ≡ 502) (s : examination (entries_of sheet) ≡ nothing) (e : job_in file ≡ Ok job) where
  pub reported : report_written (judgement_in (entries_of sheet) job) out ≡ call_answer sheet file out
  reported = rw (eq-eqb (length sheet) 502 l, s, e) refl

  pub left : report_left (judgement_in (entries_of sheet) job) out ≡ call_buffer sheet file out
  unfolding call_buffer
  left = rw (eq-eqb (length sheet) 502 l, s, e) refl

-- a sheet of which something is refused ends the call
module _ (sheet file out : List ℕ) (l : length sheet ≡ 502) {r : Refusal} (h : examination (entries_of sheet) ≡ Err r) where
  pub bad_sheet_code : call_code sheet file out ≡ written_code (Err r)
  unfolding call_code
  bad_sheet_code = rw (eq-eqb (length sheet) 502 l, h) refl

  pub bad_sheet_buffer : call_buffer sheet file out ≡ out
  unfolding call_buffer
  bad_sheet_buffer = rw (eq-eqb (length sheet) 502 l, h) refl
