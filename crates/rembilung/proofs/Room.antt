-- What the buffer adds to what is refused of the sheet and the file: nothing, where it has the length that is enough.
-- Assumes nothing.
use mathlib.Core.Path.{◌≡◌, refl}
use mathlib.Core.List.{List}
use Prim.Native.Nat.{ℕ, ◌≤◌}
use native.Mathlib.Nat.{le_trans}
use native.Mathlib.Omega.{arith}
use lib.Dec.{lit≤}
use lib.ListN.{length}
use Rattle.std.specs.Prelude.{Result, Ok, Err}
use Rattle.basis.specs.Refusal.{Examined, nothing, first}
use Rattle.basis.specs.declared.Refusal.{Refusal}
use Rattle.basis.proofs.Writing.{room_nothing}
use Rattle.jobfile.specs.Read.{job_in}
use Rattle.jobfile.specs.declared.FileJob.{FileJob}
use Rattle.jobfile.specs.declared.FileJob.TheVariants.{Scaffold, Support}
use Rattle.jobfile.proofs.Reading.{scaffold_stands, support_stands}
use Rattle.report.specs.Enough.{enough}
use Rattle.report.proofs.Enough.{enough_is}
use Rattle.rembilung.specs.Call.{entries_of, report_in, text, input_refusal, call_refusal}

module _ (sheet file : List ℕ) where
  report_short : (read : Result FileJob Refusal) → job_in file ≡ read → length (report_in (entries_of sheet) read) ≤ enough
  report_short (Ok (Scaffold j)) e = enough_is.no_longer (entries_of sheet) j (scaffold_stands file j e)
  report_short (Ok (Support s)) e = le_trans (enough_is.support_no_longer (entries_of sheet) s (support_stands file s e)) (lit≤ tt)
  report_short (Err refusal) e = omega arith

  -- no report is longer, and a file that is refused has none
  pub text_short : length (text sheet file) ≤ enough
  text_short = report_short (job_in file) refl

  -- so the whole call refuses what is refused of the sheet and the file, and nothing else
  pub room_for_all : (out : List ℕ) → enough ≤ length out → call_refusal sheet file out ≡ input_refusal sheet file
  room_for_all out l = rw (room_nothing (text sheet file) out (le_trans text_short l)) (last (input_refusal sheet file))
    where
      last : (r : Examined) → first r nothing ≡ r
      last (Ok none) = refl
      last (Err refusal) = refl
