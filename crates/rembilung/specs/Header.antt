-- What the header promises of the exported calls besides the demands: lengths that are enough, and the two halves of what is returned.
-- Assumes nothing.
use Rattle.std.specs.Prelude.{ℕ, ◌/◌, ◌%◌, ◌≤◌, min, ◌≡◌, List, length}
use Rattle.groups.specs.Decode.{Bytes}
use Rattle.jobfile.specs.Kind.{Kind, scaffold, support, count, Stands}
use Rattle.rembilung.specs.Call.{call_code, write_code, read_code}
use Rattle.rembilung.specs.Table.{ReadRow, Reads, WriteRow, Writes, CallRow, Judges, Answers, SomeJob}

-- the lengths that the header names, REMBILUNG_FILE_MOST and REMBILUNG_REPORT_MOST; of supports, REMBILUNG_SUPPORT_FILE_MOST and REMBILUNG_SUPPORT_REPORT_MOST
abbrev pub file_most : Kind → ℕ
file_most scaffold = 42
file_most support = 24

abbrev pub report_most : Kind → ℕ
report_most scaffold = 178
report_most support = 127

-- the upper half of what is returned is the refusal's number, and 0 exactly where the call answers; the lower half is the place
pub record Halves (returned : ℕ) (Row : ℕ → ℕ → Type 0) (Answered : Type 0) : Type 0 where
  pub refused : (n p : ℕ) → Row n p → (returned / 4294967296 ≡ n) × (returned % 4294967296 ≡ min p 4294967295)
  pub answered : Answered → returned / 4294967296 ≡ 0
  pub only : returned / 4294967296 ≡ 0 → Answered

pub record Header : Type 0 where
  -- with a buffer of the length that it names whatever stands is answered, and refusal 8 never comes; the scaffolds' length is enough for both kinds
  pub report_room : (k : Kind) (sheet file out ns : List ℕ) → Judges k sheet file ns → report_most k ≤ length out → Answers k sheet file out ns
  pub report_never_8 : (sheet file out : List ℕ) → Bytes file → report_most scaffold ≤ length out → call_code sheet file out / 4294967296 ≡ 8 → ⊥
  pub file_room : (k : Kind) (ns out : List ℕ) → length ns ≡ count k → Stands k ns → file_most k ≤ length out → Writes k ns out
  pub file_never_8 : (k : Kind) (ns out : List ℕ) → length ns ≡ count k → file_most k ≤ length out → write_code k ns out / 4294967296 ≡ 8 → ⊥
  -- of each call
  pub call_halves : (sheet file out : List ℕ) → Bytes file → Halves (call_code sheet file out) (CallRow sheet file out) (SomeJob (λ k ns. Answers k sheet file out ns))
  pub write_halves : (k : Kind) (ns out : List ℕ) → length ns ≡ count k → Halves (write_code k ns out) (WriteRow k ns out) (Writes k ns out)
  pub read_halves : (file : List ℕ) → Bytes file → Halves (read_code file) (ReadRow file) (SomeJob (λ k ns. Reads k file ns))
