-- Document 01, "Numbers for what can't be judged", of each exported call, with what 02 says of supports: which row applies, as facts of what was lent, each where those before it do not; and that none does.
-- Assumes nothing.
use Rattle.std.specs.Prelude.{ℕ, ◌+◌, ◌*◌, ◌≤◌, ◌<◌, min, ◌≡◌, List, length}
use Rattle.basis.specs.Rows.{First}
use Rattle.job.specs.Job.{job_of}
use Rattle.support.specs.Support.{support_of}
use Rattle.sheet.specs.Rows.{Faulty}
use Rattle.section5.specs.declared.Judgement.{Judgement}
use Rattle.section5.specs.Section5 as Section5
use Rattle.section5.specs.Formwork as Formwork
use Rattle.groups.specs.Encode.{encode_all}
use Rattle.groups.specs.Rows as Groups
use Rattle.jobfile.specs.Kind.{Kind, scaffold, support, count, Row, Stands, Marks}
use Rattle.report.specs.Report.{report}
use Rattle.rembilung.specs.Call.{entries_of}

-- a call refuses: it returns refusal × 4,294,967,296 + place, a place above 4,294,967,295 being given as that, and leaves what was lent as it was
pub record Refuses (number place returned : ℕ) (before after : List ℕ) : Type 0 where
  pub code : returned ≡ number * 4294967296 + min place 4294967295
  pub kept : after ≡ before

-- ---- Reading a job file: 6, 7, 3, 4, 5

pub data ReadRow (file : List ℕ) : ℕ → ℕ → Type 0 where
  -- of the kind that its first number marks, so many numbers being read:
  -- 6, offset of the number's first byte: file ends inside or before it, not shortest, or too great; 7, offset of first extra byte (groups/specs/Rows.antt)
  bytes : (k : Kind) → Marks k file → (n p : ℕ) → Groups.Row (count k) file n p → ReadRow file n p
  -- 3, lowest field: outside its range; 4, 10 or else 12: they contradict each other; 5, 20 or else 21: an unfit wall (job/specs/Rows.antt); of a support 3 alone (support/specs/Rows.antt)
  job : (k : Kind) → Marks k file → (n p : ℕ) (ns : List ℕ) → Groups.Holds (count k) file ns → Row k ns n p → ReadRow file n p

-- none applies: the file is that of a kind's numbers that stand
pub record Reads (k : Kind) (file ns : List ℕ) : Type 0 where
  pub holds : Groups.Holds (count k) file ns
  pub stands : Stands k ns

-- ---- Writing a job file: 3, 4, 5, 8

pub data WriteRow (k : Kind) (ns out : List ℕ) : ℕ → ℕ → Type 0 where
  -- 3, 4, 5; of a support 3
  job : (n p : ℕ) → Row k ns n p → WriteRow k ns out n p
  -- 8, length needed: buffer too short
  short : Stands k ns → length out < length (encode_all ns) → WriteRow k ns out 8 (length (encode_all ns))

-- none applies: the numbers stand, and the buffer has room for their file
pub record Writes (k : Kind) (ns out : List ℕ) : Type 0 where
  pub stands : Stands k ns
  pub room : length (encode_all ns) ≤ length out

-- ---- The whole call: 1, 2, 6, 7, 3, 4, 5, 8

-- a sheet that stands: 502 bytes, no entry of which is faulty (sheet/specs/Rows.antt)
pub record SheetStands (sheet : List ℕ) : Type 0 where
  pub bytes : length sheet ≡ 502
  pub entries : (k : ℕ) → k ≤ 250 → Faulty (entries_of sheet) k → ⊥

-- the judgement of a kind's numbers under the entries of a sheet
abbrev pub judgement_of : Kind → List ℕ → List ℕ → Judgement
judgement_of scaffold sheet ns = Section5.judgement (job_of ns) sheet
judgement_of support sheet ns = Formwork.judgement (support_of ns) sheet

-- and their report
abbrev pub report_of : Kind → List ℕ → List ℕ → List ℕ
report_of k sheet ns = report (judgement_of k (entries_of sheet) ns)

pub data SheetRow (sheet : List ℕ) : ℕ → ℕ → Type 0 where
  -- 1, length in bytes: sheet isn't 502 bytes
  other_length : (length sheet ≡ 502 → ⊥) → SheetRow sheet 1 (length sheet)
  -- 2, first such k: entry k is 0, above 1,000, above entry k−1, or k = 250 and below 117
  entry : (k : ℕ) → length sheet ≡ 502 → k ≤ 250 → First (Faulty (entries_of sheet)) k → SheetRow sheet 2 k

-- what is refused whatever the buffer
pub data InputRow (sheet file : List ℕ) : ℕ → ℕ → Type 0 where
  -- 1, 2
  of_sheet : (n p : ℕ) → SheetRow sheet n p → InputRow sheet file n p
  -- 6, 7, 3, 4, 5
  of_file : (n p : ℕ) → SheetStands sheet → ReadRow file n p → InputRow sheet file n p

-- none applies but for the buffer: the sheet stands, and the file is that of a kind's numbers that stand
pub record Judges (k : Kind) (sheet file ns : List ℕ) : Type 0 where
  pub sheet_stands : SheetStands sheet
  pub reads : Reads k file ns

pub data CallRow (sheet file out : List ℕ) : ℕ → ℕ → Type 0 where
  -- 1, 2, 6, 7, 3, 4, 5
  of_input : (n p : ℕ) → InputRow sheet file n p → CallRow sheet file out n p
  -- 8, length needed: buffer too short
  short : (k : Kind) (ns : List ℕ) → Judges k sheet file ns → length out < length (report_of k sheet ns) → CallRow sheet file out 8 (length (report_of k sheet ns))

-- none applies: the buffer has room for the report
pub record Answers (k : Kind) (sheet file out ns : List ℕ) : Type 0 where
  pub judges : Judges k sheet file ns
  pub room : length (report_of k sheet ns) ≤ length out

-- numbers of either kind of which that holds
abbrev pub SomeJob : (Kind → List ℕ → Type 0) → Type 0
SomeJob Is = (k : Kind) × ((ns : List ℕ) × Is k ns)
