-- The client's three demands, and what document 02 asks of supports, about what the exported calls return and leave; the facts are those of the papers (Table.antt).
-- Assumes nothing.
use Rattle.std.specs.Prelude.{ℕ, ◌/◌, ◌≤◌, ◌<◌, ◌≡◌, List, ◌++◌, ◌↔◌, T, length, take, drop, set}
use Rattle.basis.specs.Rows.{Exactly}
use Rattle.job.specs.Job.{job_of}
use Rattle.job.specs.Rows.{Inside}
use Rattle.support.specs.Support.{support_of}
use Rattle.section5.specs.Section5.{checks, verdicts, figures, poles, stability, heights, wk, Mw, column}
use Rattle.section5.specs.Poles.{NoHigher, UpTo}
use Rattle.section5.specs.Formwork as Formwork
use Rattle.section5.specs.Harsher.{Harsher, HarsherSupport}
use Rattle.groups.specs.Encode.{encode_all}
use Rattle.groups.specs.Decode.{Bytes}
use Rattle.jobfile.specs.Kind.{Kind, scaffold, support, count}
use Rattle.report.specs.Report.{check_lines, height_line, wind_line, column_line}
use Rattle.rembilung.specs.Call.{entries_of, call_code, call_buffer, write_code, write_buffer, read_code, read_buffer}
use Rattle.rembilung.specs.Table.{Refuses, ReadRow, Reads, WriteRow, Writes, report_of, CallRow, Judges, Answers, SomeJob}
use Rattle.rembilung.specs.Header.{report_most}
use Rattle.rembilung.specs.Shown.{verdict_shown, height_shown, permitted_shown}

-- 1. A job with a figure outside its range, two figures that contradict each other, a wall unfit for a single row, a damaged column sheet or
-- job file, or a buffer too short is refused with the number and place in document 01, and the buffers stay as document 01 says. Everything
-- else is accepted, judged and finished.
pub record Demand1 : Type 0 where
  -- the whole call: where a row of the table applies, its refusal; where none does, the report; and of every input it is exactly one of these
  pub call_refused : (sheet file out : List ℕ) → Bytes file → (n p : ℕ) → CallRow sheet file out n p → Refuses n p (call_code sheet file out) out (call_buffer sheet file out)
  pub call_answered : (sheet file out : List ℕ) → Bytes file → (k : Kind) (ns : List ℕ) → Answers k sheet file out ns
      → (call_code sheet file out ≡ length (report_of k sheet ns)) × (call_buffer sheet file out ≡ report_of k sheet ns ++ drop (length (report_of k sheet ns)) out)
  pub call_exactly : (sheet file out : List ℕ) → Bytes file → Exactly (CallRow sheet file out) (SomeJob (λ k ns. Answers k sheet file out ns))
  -- writing the job file of a scaffold's 25 numbers, and of a support's 13
  pub write_refused : (k : Kind) (ns out : List ℕ) → length ns ≡ count k → (n p : ℕ) → WriteRow k ns out n p → Refuses n p (write_code k ns out) out (write_buffer k ns out)
  pub write_answered : (k : Kind) (ns out : List ℕ) → length ns ≡ count k → Writes k ns out
      → (write_code k ns out ≡ length (encode_all ns)) × (write_buffer k ns out ≡ encode_all ns ++ drop (length (encode_all ns)) out)
  pub write_exactly : (k : Kind) (ns out : List ℕ) → length ns ≡ count k → Exactly (WriteRow k ns out) (Writes k ns out)
  -- reading one: 25 numbers, or the first 13 and the others as they were
  pub read_refused : (file before : List ℕ) → Bytes file → (n p : ℕ) → ReadRow file n p → Refuses n p (read_code file) before (read_buffer file before)
  pub read_answered : (file before : List ℕ) → Bytes file → length before ≡ 25 → (k : Kind) (ns : List ℕ) → Reads k file ns → (read_code file ≡ count k) × (read_buffer file before ≡ ns ++ drop (count k) before)
  pub read_exactly : (file : List ℕ) → Bytes file → Exactly (ReadRow file) (SomeJob (λ k ns. Reads k file ns))

-- 2. Every verdict and figure is the one that section 5 of JGJ 130-2001 gives as document 01, with what 02 changes, restates it; of a support,
-- clause 5.6 as 02 restates it. A job written to a file reads back as that job, and a file that was read writes back as those bytes.
pub record Demand2 : Type 0 where
  -- the report that an answered call leaves, in the paper's own definitions
  pub reported : (sheet file out : List ℕ) → Bytes file → (ns : List ℕ) → Answers scaffold sheet file out ns →
      (let j = job_of ns in
      let s = entries_of sheet in
      call_buffer sheet file out
      ≡ (check_lines 1 (verdicts j s) (figures j s) ++ (height_line (heights j (stability j s)) ++ (wind_line (wk j) (Mw j) ++ column_line (column j)))) ++ drop (call_code sheet file out) out)
  -- that of a support has no height line
  pub support_reported : (sheet file out : List ℕ) → Bytes file → (ns : List ℕ) → Answers support sheet file out ns →
      (let s = support_of ns in
      call_buffer sheet file out
      ≡ (check_lines 1 (Formwork.verdicts s (entries_of sheet)) (Formwork.figures s) ++ (wind_line (Formwork.wk s) (Formwork.Mw s) ++ column_line (Formwork.column s))) ++ drop (call_code sheet file out) out)
  -- numbers of which a file was written read back
  pub job_back : (k : Kind) (ns out before : List ℕ) → length ns ≡ count k → length before ≡ 25 → write_code k ns out / 4294967296 ≡ 0 →
      (let file = take (write_code k ns out) (write_buffer k ns out) in
      (read_code file ≡ count k) × (read_buffer file before ≡ ns ++ drop (count k) before))
  -- a file that was read writes back, from the numbers read
  pub file_back : (k : Kind) (file before out : List ℕ) → Bytes file → length before ≡ 25 → read_code file ≡ count k → length file ≤ length out →
      (let ns = take (count k) (read_buffer file before) in
      (write_code k ns out ≡ length file) × (write_buffer k ns out ≡ file ++ drop (length file) out))

-- 3. Take any two accepted jobs under one column sheet, so ordered. Then every check that fails for the first fails for the second, check 12
-- among them. The second's stability height is no greater than the first's, none counting as the least, nor is its permitted height (document
-- 02, request 5). And for every accepted job, of all heights from 0 to 60 m, in whole centimetres, its pole checks pass exactly at those up to
-- its reported stability height, and at none where none is reported.
pub record Demand3 : Type 0 where
  -- a check that the first report shows as failed the second shows as failed, and the second shows no greater heights
  pub no_pass_gained : (sheet file₁ file₂ out₁ out₂ : List ℕ) → Bytes file₁ → Bytes file₂ → (n₁ n₂ : List ℕ)
      → Answers scaffold sheet file₁ out₁ n₁ → Answers scaffold sheet file₂ out₂ n₂ → Harsher (job_of n₁) (job_of n₂)
      → (i : ℕ) → i < checks → verdict_shown (call_buffer sheet file₁ out₁) i ≡ 2 → verdict_shown (call_buffer sheet file₂ out₂) i ≡ 2
  pub no_height_gained : (sheet file₁ file₂ out₁ out₂ : List ℕ) → Bytes file₁ → Bytes file₂ → (n₁ n₂ : List ℕ)
      → Answers scaffold sheet file₁ out₁ n₁ → Answers scaffold sheet file₂ out₂ n₂ → Harsher (job_of n₁) (job_of n₂)
      → NoHigher (height_shown (call_buffer sheet file₂ out₂)) (height_shown (call_buffer sheet file₁ out₁))
  pub no_more_permitted : (sheet file₁ file₂ out₁ out₂ : List ℕ) → Bytes file₁ → Bytes file₂ → (n₁ n₂ : List ℕ)
      → Answers scaffold sheet file₁ out₁ n₁ → Answers scaffold sheet file₂ out₂ n₂ → Harsher (job_of n₁) (job_of n₂)
      → NoHigher (permitted_shown (call_buffer sheet file₂ out₂)) (permitted_shown (call_buffer sheet file₁ out₁))
  -- the pole checks pass exactly up to the height shown
  pub height_exact : (sheet file out : List ℕ) → Bytes file → (ns : List ℕ) → Answers scaffold sheet file out ns
      → (H : ℕ) → H ≤ 6000 → T (poles (job_of ns) (entries_of sheet) H) ↔ UpTo H (height_shown (call_buffer sheet file out))
  -- and at every height that field 7 allows they are verdicts 7 and 8 in the report of the job with that height
  pub poles_shown : (sheet file ns : List ℕ) → Judges scaffold sheet file ns
      → (H : ℕ) → Inside (job_of (set ns 6 H)) 7 → (out : List ℕ) → report_most scaffold ≤ length out →
      (let shown = call_buffer sheet (encode_all (set ns 6 H)) out in
      T (poles (job_of ns) (entries_of sheet) H) ↔ ((verdict_shown shown 6 ≡ 2 → ⊥) × (verdict_shown shown 7 ≡ 2 → ⊥)))

-- Document 02, request 2: of two accepted supports under one column sheet, so ordered, every check that fails for the first fails for the second.
-- The order is wider than the one asked for: step, overhang, bay and the wind's numbers may be greater too.
pub record Supports : Type 0 where
  pub no_pass_gained : (sheet file₁ file₂ out₁ out₂ : List ℕ) → Bytes file₁ → Bytes file₂ → (n₁ n₂ : List ℕ)
      → Answers support sheet file₁ out₁ n₁ → Answers support sheet file₂ out₂ n₂ → HarsherSupport (support_of n₁) (support_of n₂)
      → (i : ℕ) → i < checks → verdict_shown (call_buffer sheet file₁ out₁) i ≡ 2 → verdict_shown (call_buffer sheet file₂ out₂) i ≡ 2

pub record Demands : Type 0 where
  pub one : Demand1
  pub two : Demand2
  pub three : Demand3
  pub supports : Supports
