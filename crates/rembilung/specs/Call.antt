-- The exported calls, each by definition over the lists that were lent to it: what it returns, and what it leaves.
-- Assumes nothing.
use Rattle.std.specs.Prelude.{ℕ, List, [], ◌++◌, eqb, length, drop, Result, Ok, Err}
use Rattle.basis.specs.Refusal.{Examined, nothing, unless, first}
use Rattle.basis.specs.declared.Refusal.{Refusal}
use Rattle.basis.specs.declared.Refusal.TheVariants.{SheetLength}
use Rattle.basis.specs.Writing.{room_refusal, written_or, left_or}
use Rattle.job.specs.Job as Job
use Rattle.support.specs.Support as Support
use Rattle.sheet.specs.Bytes.{entries}
use Rattle.sheet.specs.Sheet.{examination}
use Rattle.section5.specs.declared.Judgement.{Judgement}
use Rattle.section5.specs.Section5.{judgement}
use Rattle.section5.specs.Formwork as Formwork
use Rattle.jobfile.specs.Kind.{Kind, scaffold, support}
use Rattle.jobfile.specs.Read.{job_in}
use Rattle.jobfile.specs.Write.{file_written, file_left}
use Rattle.jobfile.specs.declared.FileJob.{FileJob}
use Rattle.jobfile.specs.declared.FileJob.TheVariants.{Scaffold, Support}
use Rattle.book.specs.Read.{rows_read, rows_left}
use Rattle.book.specs.Write.{book_written, book_left}
use Rattle.report.specs.Report.{report}
use Rattle.between.specs.Between as Between
use Rattle.between.specs.declared.Between.{Between as Told}
use Rattle.cells.specs.Cells.{cells_written, cells_left}
use Rattle.failing.specs.Failing as Failing
use Rattle.failing.specs.declared.FirstFailing.{FirstFailing}
use Rattle.rembilung.specs.Code.{written_code}

-- the 251 entries of 502 bytes, each low byte first
abbrev pub entries_of : List ℕ → List ℕ
entries_of sheet = entries sheet 251

-- what an answer refuses, if it is a refusal
abbrev pub refusal_in : {A : Type 0} → Result A Refusal → Examined
refusal_in (Ok answer) = nothing
refusal_in (Err refusal) = Err refusal

-- the judgement of a job of either kind, under the entries of a sheet
abbrev pub judgement_in : List ℕ → FileJob → Judgement
judgement_in sheet (Scaffold j) = judgement j sheet
judgement_in sheet (Support s) = Formwork.judgement s sheet

-- the report of what was read, under the entries of a sheet; none of a file that is refused
abbrev pub report_in : List ℕ → Result FileJob Refusal → List ℕ
report_in sheet (Ok job) = report (judgement_in sheet job)
report_in sheet (Err refusal) = []

-- the report of a sheet and a file
abbrev pub text : List ℕ → List ℕ → List ℕ
text sheet file = report_in (entries_of sheet) (job_in file)

-- 1, with the length in bytes, then 2
abbrev pub sheet_refusal : List ℕ → Examined
sheet_refusal sheet = unless (eqb (length sheet) 502) (SheetLength (length sheet)) (examination (entries_of sheet))

-- what is refused of the sheet and the file, whatever the buffer: 1 and 2, then 6, 7, 3, 4 and 5
abbrev pub input_refusal : List ℕ → List ℕ → Examined
input_refusal sheet file = first (sheet_refusal sheet) (refusal_in (job_in file))

-- and then 8
abbrev pub call_refusal : List ℕ → List ℕ → List ℕ → Examined
call_refusal sheet file out = first (input_refusal sheet file) (room_refusal (text sheet file) out)

-- the whole call answers the report's length, or the refusal
abbrev pub call_answer : List ℕ → List ℕ → List ℕ → Result ℕ Refusal
call_answer sheet file out = written_or (call_refusal sheet file out) (length (text sheet file))

-- and returns that length alone, or the refusal and its place
unfoldable pub call_code : List ℕ → List ℕ → List ℕ → ℕ
call_code sheet file out = written_code (call_answer sheet file out)

-- the report buffer afterwards: the report and every later byte as it was, or every byte as it was
unfoldable pub call_buffer : List ℕ → List ℕ → List ℕ → List ℕ
call_buffer sheet file out = left_or (call_refusal sheet file out) (text sheet file) out

-- the numbers of the job that a kind's numbers make: the same, where there are as many as it has
abbrev pub numbers_as : Kind → List ℕ → List ℕ
numbers_as scaffold ns = Job.numbers (Job.job_of ns)
numbers_as support ns = Support.numbers (Support.support_of ns)

-- writing the job file of a kind's numbers returns its length alone, or the refusal and its place
unfoldable pub write_code : Kind → List ℕ → List ℕ → ℕ
write_code kind ns out = written_code (file_written kind (numbers_as kind ns) out)

-- the file buffer afterwards: the file and every later byte as it was, or every byte as it was
unfoldable pub write_buffer : Kind → List ℕ → List ℕ → List ℕ
write_buffer kind ns out = file_left kind (numbers_as kind ns) out

-- what reading answers: how many numbers the job has, or the refusal
abbrev pub count_in : Result FileJob Refusal → Result ℕ Refusal
count_in (Ok (Scaffold j)) = Ok 25
count_in (Ok (Support s)) = Ok 13
count_in (Err refusal) = Err refusal

-- the 25 numbers afterwards: a scaffold's, or a support's 13 and the others as they were, or each as it was
abbrev pub left_in : Result FileJob Refusal → List ℕ → List ℕ
left_in (Ok (Scaffold j)) before = Job.numbers j
left_in (Ok (Support s)) before = Support.numbers s ++ drop 13 before
left_in (Err refusal) before = before

-- reading a job file returns that count alone, or the refusal and its place; the numbers afterwards
unfoldable pub read_code : List ℕ → ℕ
read_code file = written_code (count_in (job_in file))

unfoldable pub read_buffer : List ℕ → List ℕ → List ℕ
read_buffer file before = left_in (job_in file) before

-- writing the book of rows returns its length alone, or the refusal and its place; the buffer afterwards
unfoldable pub write_book_code : List ℕ → List ℕ → ℕ
write_book_code rows out = written_code (book_written rows out)

unfoldable pub write_book_buffer : List ℕ → List ℕ → List ℕ
write_book_buffer rows out = book_left rows out

-- reading one returns how many rows there are, or the refusal and its place; the rows lent afterwards
unfoldable pub read_book_code : List ℕ → List ℕ → ℕ
read_book_code book out = written_code (rows_read book out)

unfoldable pub read_book_buffer : List ℕ → List ℕ → List ℕ
read_book_buffer book out = rows_left book out

-- what is told of two ends, by their 25 numbers each: 1 with the sheet's length in bytes, or what is answered under its entries
abbrev pub between_told : List ℕ → List ℕ → List ℕ → Result Told Refusal
between_told sheet mild harsh = unless (eqb (length sheet) 502) (SheetLength (length sheet)) (Between.answer (entries_of sheet) (Job.job_of mild) (Job.job_of harsh))

-- the n numbers of what is told are written, or none
abbrev pub told_count : {A : Type 0} → ℕ → Result A Refusal → Result ℕ Refusal
told_count n (Ok told) = Ok n
told_count n (Err refusal) = Err refusal

abbrev pub told_left : {A : Type 0} → (A → List ℕ) → Result A Refusal → List ℕ → List ℕ
told_left numbers (Ok told) before = numbers told
told_left numbers (Err refusal) before = before

-- the call on two ends returns 14 alone, or the refusal and its place; the numbers afterwards
unfoldable pub between_code : List ℕ → List ℕ → List ℕ → ℕ
between_code sheet mild harsh = written_code (told_count 14 (between_told sheet mild harsh))

unfoldable pub between_buffer : List ℕ → List ℕ → List ℕ → List ℕ → List ℕ
between_buffer sheet mild harsh before = told_left Between.numbers (between_told sheet mild harsh) before

-- the call on load cells returns the output's length alone, or the refusal and its place; the buffer afterwards
unfoldable pub cells_code : List ℕ → ℕ → List ℕ → ℕ
cells_code records w out = written_code (cells_written records w out)

unfoldable pub cells_buffer : List ℕ → ℕ → List ℕ → List ℕ
cells_buffer records w out = cells_left records w out

-- what is told of a book under a sheet: 1 with the sheet's length in bytes, or what is answered under its entries
abbrev pub first_told : List ℕ → List ℕ → Result FirstFailing Refusal
first_told sheet book = unless (eqb (length sheet) 502) (SheetLength (length sheet)) (Failing.answer (entries_of sheet) book)

-- the call on a sheet and a book returns 2 alone, or the refusal and its place; the numbers afterwards
unfoldable pub first_code : List ℕ → List ℕ → ℕ
first_code sheet book = written_code (told_count 2 (first_told sheet book))

unfoldable pub first_buffer : List ℕ → List ℕ → List ℕ → List ℕ
first_buffer sheet book before = told_left Failing.numbers (first_told sheet book) before
