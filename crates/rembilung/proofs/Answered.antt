-- What the exported calls return and leave: the refusal of the row that applies, or the answer.
-- Assumes nothing.
use mathlib.Core.Path.{◌≡◌, ◌∙◌, refl, ap}
use mathlib.Core.List.{List, ◌++◌, append-nil}
use Prim.Native.Nat.{ℕ, ◌+◌, ◌*◌, min}
use native.Mathlib.Omega.{arith}
use mathlib.Core.Bool.{Bool, true, false}
use lib.Dec.{eqb}
use lib.ListN.{length, drop, drop_of_length-le}
use Rattle.std.specs.Prelude.{Result, Ok, Err}
use Rattle.basis.specs.Refusal.{Examined, unless, first}
use Rattle.basis.specs.declared.Refusal.TheVariants.{SheetLength}
use Rattle.sheet.specs.Sheet.{examination}
use Rattle.basis.specs.Writing.{written_or, left_or}
use Rattle.basis.specs.Rows.{Refused, Follows}
use Rattle.basis.proofs.Rows.{refused_first}
use Rattle.job.proofs.Numbers.{numbers_job}
use Rattle.support.proofs.Numbers.{numbers_support}
use Rattle.groups.specs.Encode.{encode_all}
use Rattle.groups.specs.Decode.{Bytes}
use Rattle.jobfile.specs.Kind.{Kind, scaffold, support, count}
use Rattle.jobfile.specs.Read.{job_as, job_in}
use Rattle.basis.specs.declared.Refusal.{Refusal}
use Rattle.rembilung.specs.Code.{written_code}
use Rattle.rembilung.specs.Call.{entries_of, sheet_refusal, refusal_in, text, call_code, call_buffer, numbers_as, write_code, write_buffer, count_in, left_in, read_code, read_buffer}
use Rattle.rembilung.specs.Table.{Refuses, ReadRow, Reads, WriteRow, Writes, report_of, CallRow, Answers}
use Rattle.rembilung.proofs.Table.{reads_job, reads_refused, write_follows, text_is, call_follows}

-- the code of an answer that is refused
pub code_refused : (answer : Result ℕ Refusal) (n p : ℕ) → Refused answer n p → written_code answer ≡ n * 4294967296 + min p 4294967295
code_refused answer n p a = rw (a.is, a.number_is, a.place_is) refl

-- an answer is refused as what it refuses
pub in_refused : {A : Type 0} (answer : Result A Refusal) (n p : ℕ) → Refused answer n p → Refused (refusal_in answer) n p
in_refused answer n p r = record { refusal = r.refusal; is = rw r.is refl; number_is = r.number_is; place_is = r.place_is }

-- what is refused of a sheet lent as bytes, and then what is answered under its entries
pub sheet_first : {A : Type 0} (sheet : List ℕ) (rest : Result A Refusal)
    → unless (eqb (length sheet) 502) (SheetLength (length sheet)) (first (examination (entries_of sheet)) rest) ≡ first (sheet_refusal sheet) rest
sheet_first sheet rest = go (eqb (length sheet) 502)
  where
    go : (b : Bool) → unless b (SheetLength (length sheet)) (first (examination (entries_of sheet)) rest) ≡ first (unless b (SheetLength (length sheet)) (examination (entries_of sheet))) rest
    go true = refl
    go false = refl

-- what is returned of a length
pub returned : {w : Result ℕ Refusal} {n : ℕ} → w ≡ Ok n → written_code w ≡ n
returned e = rw e refl

-- a row that applies is what is refused
pub refuses : {A : Type 0} {r : Result A Refusal} (w : Result ℕ Refusal) (before after : List ℕ) → ((x : Refusal) → r ≡ Err x → (w ≡ Err x) × (after ≡ before))
    → (n p : ℕ) → Refused r n p → Refuses n p (written_code w) before after
refuses w before after h n p e =
    let d = h e.refusal e.is in
    record { code = code_refused w n p (record { refusal = e.refusal; is = d.0; number_is = e.number_is; place_is = e.place_is }); kept = d.1 }

module _ {r : Examined} {Row : ℕ → ℕ → Type 0} {None : Type 0} (f : Follows r Row None) (written out : List ℕ) where
  -- of a text that is written, or not
  pub writes_refused : (n p : ℕ) → Row n p → Refuses n p (written_code (written_or r (length written))) out (left_or r written out)
  writes_refused n p a =
      let e = f.row n p a in
      record { code = code_refused (written_or r (length written)) n p (refused_first (Ok (length written)) e); kept = rw e.is refl }

  pub writes_done : (text : List ℕ) → written ≡ text → None → (written_code (written_or r (length written)) ≡ length text) × (left_or r written out ≡ text ++ drop (length text) out)
  writes_done text e a = rw (f.none a, ← e) (refl, refl)

-- the whole call
module _ (sheet file out : List ℕ) (w : Bytes file) where
  pub call_refused : (n p : ℕ) → CallRow sheet file out n p → Refuses n p (call_code sheet file out) out (call_buffer sheet file out)
  unfolding call_code call_buffer
  call_refused = writes_refused (call_follows sheet file w out) (text sheet file) out

  pub call_answered : (k : Kind) (ns : List ℕ) → Answers k sheet file out ns
      → (call_code sheet file out ≡ length (report_of k sheet ns)) × (call_buffer sheet file out ≡ report_of k sheet ns ++ drop (length (report_of k sheet ns)) out)
  unfolding call_code call_buffer
  call_answered k ns a =
      writes_done (call_follows sheet file w out) (text sheet file) out (report_of k sheet ns) (text_is sheet file w k ns a.judges.reads) (k, (ns, a))

-- a kind's numbers are those of the job that they make
numbers_are : (k : Kind) (ns : List ℕ) → length ns ≡ count k → numbers_as k ns ≡ ns
numbers_are scaffold ns l = numbers_job ns l
numbers_are support ns l = numbers_support ns l

-- writing a job file
module _ (k : Kind) (ns out : List ℕ) (l : length ns ≡ count k) where
  pub write_refused : (n p : ℕ) → WriteRow k ns out n p → Refuses n p (write_code k ns out) out (write_buffer k ns out)
  unfolding write_code write_buffer
  write_refused = rw (numbers_are k ns l) (writes_refused (write_follows k ns out) (encode_all ns) out)

  pub write_answered : Writes k ns out → (write_code k ns out ≡ length (encode_all ns)) × (write_buffer k ns out ≡ encode_all ns ++ drop (length (encode_all ns)) out)
  unfolding write_code write_buffer
  write_answered = rw (numbers_are k ns l) (writes_done (write_follows k ns out) (encode_all ns) out (encode_all ns) refl)

-- what reading a kind's numbers returns and leaves
count_is : (k : Kind) (ns : List ℕ) → written_code (count_in (Ok (job_as k ns))) ≡ count k
count_is scaffold ns = refl
count_is support ns = refl

left_in_lem : (k : Kind) (ns before : List ℕ) → length ns ≡ count k → length before ≡ 25 → left_in (Ok (job_as k ns)) before ≡ ns ++ drop (count k) before
left_in_lem scaffold ns before m l = numbers_job ns m ∙ rw (drop_of_length-le before {i = 25} (omega arith), append-nil) refl
left_in_lem support ns before m l = ap (λ n. n ++ drop 13 before) (numbers_support ns m)

-- reading one
module _ (file : List ℕ) (w : Bytes file) where
  pub read_refused : (before : List ℕ) (n p : ℕ) → ReadRow file n p → Refuses n p (read_code file) before (read_buffer file before)
  unfolding read_code read_buffer
  read_refused before n p a =
      let e = reads_refused file w n p a in
      let c : Refused (count_in (job_in file)) n p = record { refusal = e.refusal; is = ap count_in e.is; number_is = e.number_is; place_is = e.place_is } in
      record { code = code_refused (count_in (job_in file)) n p c; kept = rw e.is refl }

  pub read_count : (k : Kind) (ns : List ℕ) → Reads k file ns → read_code file ≡ count k
  unfolding read_code
  read_count k ns a = ap (λ r. written_code (count_in r)) (reads_job file w k ns a) ∙ count_is k ns

  pub read_numbers : (before : List ℕ) → length before ≡ 25 → (k : Kind) (ns : List ℕ) → Reads k file ns → read_buffer file before ≡ ns ++ drop (count k) before
  unfolding read_buffer
  read_numbers before l k ns a = ap (λ r. left_in r before) (reads_job file w k ns a) ∙ left_in_lem k ns before a.holds.long l
