-- What the header promises, proved.
-- Assumes nothing.
use mathlib.Core.Path.{◌≡◌}
use mathlib.Core.List.{List, []}
use mathlib.Core.Logic.{⊎_elim}
use Prim.Native.Nat.{ℕ, ◌+◌, ◌*◌, ◌/◌, ◌≤◌, ◌<◌, min}
use native.Mathlib.Nat.{le_trans}
use native.Mathlib.Omega.{arith}
use lib.Dec.{lit<}
use lib.ListN.{length}
use Rattle.basis.specs.Refusal.{Examined}
use Rattle.basis.specs.Rows.{Follows}
use Rattle.basis.proofs.Refusals.{number_pos}
use Rattle.job.specs.Job.{job_of}
use Rattle.job.specs.Rows as Job
use Rattle.support.specs.Support.{support_of}
use Rattle.support.specs.Rows as Support
use Rattle.groups.specs.Encode.{encode_all}
use Rattle.groups.specs.Decode.{Bytes}
use Rattle.groups.specs.Rows as Groups
use Rattle.jobfile.specs.Kind.{Kind, scaffold, support, count, Row, Stands}
use Rattle.jobfile.proofs.Sizes.{file_short}
use Rattle.report.proofs.Enough.{enough_is}
use Rattle.rembilung.specs.Call.{entries_of, call_code, write_code, read_code}
use Rattle.rembilung.specs.Table.{ReadRow, Reads, WriteRow, Writes, SheetRow, InputRow, CallRow, Answers, SomeJob, report_of}
use Rattle.rembilung.specs.Header.{file_most, report_most, Halves, Header}
use Rattle.rembilung.proofs.Table.{read_follows, write_follows, call_follows}
use Rattle.rembilung.proofs.Answered.{call_refused, call_answered, write_refused, write_answered, read_refused, read_count}

-- from the code of each row, and an answer's below 4,294,967,296
pub halves : {r : Examined} {Row : ℕ → ℕ → Type 0} {None : Type 0} → Follows r Row None → (returned : ℕ)
    → ((n p : ℕ) → Row n p → returned ≡ n * 4294967296 + min p 4294967295) → (None → returned < 4294967296) → Halves returned Row None
halves f returned refused answered =
    record {
      refused = λ n p a. let e = refused n p a in (omega arith, omega arith);
      answered = λ a. let l = answered a in omega arith;
      only = λ h. ⊎_elim (λ a. a) (λ w. let e = refused w.0 w.1.0 w.1.1 in let d = f.row w.0 w.1.0 w.1.1 in absurd (omega (arith, d.number_is, number_pos d.refusal))) f.every;
    }

report_short : (k : Kind) (sheet ns : List ℕ) → Stands k ns → length (report_of k sheet ns) ≤ report_most k
report_short scaffold sheet ns s = enough_is.no_longer (entries_of sheet) (job_of ns) s
report_short support sheet ns s = enough_is.support_no_longer (entries_of sheet) (support_of ns) s

-- no buffer has to be longer than a scaffold's
most_scaffold : (k : Kind) → report_most k ≤ report_most scaffold
most_scaffold scaffold = omega arith
most_scaffold support = omega arith

file_few : (k : Kind) (ns : List ℕ) → length ns ≡ count k → Stands k ns → length (encode_all ns) ≤ file_most k
file_few scaffold ns l s = file_short scaffold ns l s
file_few support ns l s = file_short support ns l s

few : (k : Kind) → file_most k < 4294967296
few scaffold = lit< tt
few support = lit< tt

small : (k : Kind) → count k < 4294967296
small scaffold = lit< tt
small support = lit< tt

pub call_halves : (sheet file out : List ℕ) → Bytes file → Halves (call_code sheet file out) (CallRow sheet file out) (SomeJob (λ k ns. Answers k sheet file out ns))
call_halves sheet file out w =
    halves (call_follows sheet file w out) (call_code sheet file out) (λ n p a. (call_refused sheet file out w n p a).code)
    (λ a.
    let j = a.1.1 in
    omega (arith, (call_answered sheet file out w a.0 a.1.0 j).0, report_short a.0 sheet a.1.0 j.judges.reads.stands, most_scaffold a.0))

pub write_halves : (k : Kind) (ns out : List ℕ) → length ns ≡ count k → Halves (write_code k ns out) (WriteRow k ns out) (Writes k ns out)
write_halves k ns out l =
    halves (write_follows k ns out) (write_code k ns out) (λ n p a. (write_refused k ns out l n p a).code)
    (λ a. omega (arith, (write_answered k ns out l a).0, file_few k ns l a.stands, few k))

pub read_halves : (file : List ℕ) → Bytes file → Halves (read_code file) (ReadRow file) (SomeJob (λ k ns. Reads k file ns))
read_halves file w =
    halves (read_follows file w) (read_code file) (λ n p a. (read_refused file w [] n p a).code)
    (λ a. omega (arith, read_count file w a.0 a.1.0 a.1.1, small a.0))

-- no row but the buffer's has the number 8
row_below_8 : (k : Kind) (ns : List ℕ) (n p : ℕ) → Row k ns n p → n < 8
row_below_8 scaffold ns n p (Job.Row.outside q f) = lit< tt
row_below_8 scaffold ns n p (Job.Row.layers i l) = lit< tt
row_below_8 scaffold ns n p (Job.Row.live i l m) = lit< tt
row_below_8 scaffold ns n p (Job.Row.thin a f l) = lit< tt
row_below_8 scaffold ns n p (Job.Row.weak a f l m) = lit< tt
row_below_8 support ns n p (Support.Row.outside q f) = lit< tt

bytes_below_8 : (count : ℕ) (file : List ℕ) (n p : ℕ) → Groups.Row count file n p → n < 8
bytes_below_8 count file n p (Groups.Row.damaged ns rest s l d) = lit< tt
bytes_below_8 count file n p (Groups.Row.trailing ns rest s l d) = lit< tt

sheet_below_8 : (sheet : List ℕ) (n p : ℕ) → SheetRow sheet n p → n < 8
sheet_below_8 sheet n p (SheetRow.other_length h) = lit< tt
sheet_below_8 sheet n p (SheetRow.entry k l u f) = lit< tt

read_below_8 : (file : List ℕ) (n p : ℕ) → ReadRow file n p → n < 8
read_below_8 file n p (ReadRow.bytes k i m q r) = bytes_below_8 (count k) file n p r
read_below_8 file n p (ReadRow.job k i m q ns h r) = row_below_8 k ns n p r

input_below_8 : (sheet file : List ℕ) (n p : ℕ) → InputRow sheet file n p → n < 8
input_below_8 sheet file n p (InputRow.of_sheet m q r) = sheet_below_8 sheet n p r
input_below_8 sheet file n p (InputRow.of_file m q s r) = read_below_8 file n p r

report_never_8 : (sheet file out : List ℕ) → Bytes file → report_most scaffold ≤ length out → call_code sheet file out / 4294967296 ≡ 8 → ⊥
report_never_8 sheet file out w l e = ⊎_elim (λ a. omega (arith, h.answered a)) (λ r. row r.0 r.1.0 r.1.1) (call_follows sheet file w out).every
  where
    h : Halves (call_code sheet file out) (CallRow sheet file out) (SomeJob (λ k ns. Answers k sheet file out ns))
    h = call_halves sheet file out w

    row : (n p : ℕ) → CallRow sheet file out n p → ⊥
    row n p (CallRow.of_input m q r) = omega (arith, (h.refused n p (CallRow.of_input n p r)).0, input_below_8 sheet file n p r)
    row n p (CallRow.short k ns a u) = omega (arith, report_short k sheet ns a.reads.stands, most_scaffold k)

file_never_8 : (k : Kind) (ns out : List ℕ) → length ns ≡ count k → file_most k ≤ length out → write_code k ns out / 4294967296 ≡ 8 → ⊥
file_never_8 k ns out l m e = ⊎_elim (λ a. omega (arith, h.answered a)) (λ r. row r.0 r.1.0 r.1.1) (write_follows k ns out).every
  where
    h : Halves (write_code k ns out) (WriteRow k ns out) (Writes k ns out)
    h = write_halves k ns out l

    row : (n p : ℕ) → WriteRow k ns out n p → ⊥
    row n p (WriteRow.job i q r) = omega (arith, (h.refused n p (WriteRow.job n p r)).0, row_below_8 k ns n p r)
    row n p (WriteRow.short s u) = omega (arith, file_few k ns l s)

pub header : Header
header =
    record {
      report_room = λ k sheet file out ns a l. record { judges = a; room = le_trans (report_short k sheet ns a.reads.stands) l };
      report_never_8 = report_never_8;
      file_room = λ k ns out l s m. record { stands = s; room = le_trans (file_few k ns l s) m };
      file_never_8 = file_never_8;
      call_halves = call_halves;
      write_halves = write_halves;
      read_halves = read_halves;
    }
