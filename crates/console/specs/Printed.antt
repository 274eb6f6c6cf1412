-- What the program prints, by definition over the bytes of column.dat and of standard input.
-- Assumes nothing.
use Rattle.std.specs.Prelude.{cond, ℕ, min, ◌≡◌, List, eqb, length, take, Ok, Err}
use Rattle.basis.specs.Refusal.{number, place, Examined}
use Rattle.basis.specs.declared.Refusal.{Refusal}
use Rattle.basis.specs.declared.Refusal.TheVariants.{SheetLength}
use Rattle.jobfile.specs.Kind.{Kind}
use Rattle.jobfile.specs.Beginning.{beginning_length}
use Rattle.groups.specs.Decode.{Bytes}
use Rattle.rembilung.specs.Call.{text, input_refusal}
use Rattle.rembilung.specs.Table.{InputRow, Judges, report_of}
use Rattle.report.specs.Refused.{refused_line}

-- the line of a refusal, a place above 4,294,967,295 being given as that
abbrev pub line : Refusal → List ℕ
line refusal = refused_line (number refusal) (min (place refusal) 4294967295)

-- a text where nothing is refused, else the line of the refusal
abbrev pub text_or_line : Examined → List ℕ → List ℕ
text_or_line (Ok none) text = text
text_or_line (Err refusal) text = line refusal

-- the report, or the line of what is refused of the sheet and the file: 8, which is refused of a buffer, is never printed
unfoldable pub printed : List ℕ → List ℕ → List ℕ
printed sheet file = text_or_line (input_refusal sheet file) (text sheet file)

-- the same from a sheet's length, its first bytes and the file: another length than 502 bytes is refused before anything else
unfoldable pub printed_from : ℕ → List ℕ → List ℕ → List ℕ
printed_from n sheet file = cond (eqb n 502) (printed sheet file) (line (SheetLength n))

-- a program may hold 502 bytes of column.dat and the beginning of standard input, and count the sheet's length to 4,294,967,295
pub record Beginnings : Type 0 where
  pub suffice : (n : ℕ) (sheet file : List ℕ) → min n 4294967295 ≡ min (length sheet) 4294967295
      → printed_from n (take 502 sheet) (take beginning_length file) ≡ printed sheet file

-- what is printed, from the facts of the table: the line of the row that applies, whatever the buffer, or the report
pub record Prints : Type 0 where
  pub refused : (sheet file : List ℕ) → Bytes file → (n p : ℕ) → InputRow sheet file n p → printed sheet file ≡ refused_line n (min p 4294967295)
  pub reported : (sheet file : List ℕ) → Bytes file → (k : Kind) (ns : List ℕ) → Judges k sheet file ns → printed sheet file ≡ report_of k sheet ns
