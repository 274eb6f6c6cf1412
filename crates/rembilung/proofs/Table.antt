-- What each exported call refuses is what the table says.
-- Assumes nothing.
use mathlib.Core.Path.{◌≡◌, ◌∙◌, refl, sym, ap}
use mathlib.Core.List.{List, [], append-nil}
use mathlib.Core.Logic.{◌⊎◌, inl, inr, ⊎_elim}
use Prim.Native.Nat.{ℕ}
use lib.Dec.{eqb, leb}
use lib.ListN.{length}
use borrow.Author.Tests.{eq-eqb, ne_eqb, eqb-true, eqb-false, leb-true, leb-false}
use Rattle.std.specs.Prelude.{Ok}
use Rattle.basis.specs.Refusal.{nothing, unless}
use Rattle.basis.specs.declared.Refusal.TheVariants.{SheetLength, TooShort}
use Rattle.basis.specs.Rows.{Some, Refused, Follows}
use Rattle.basis.specs.Writing.{room_refusal}
use Rattle.basis.proofs.Tests.{cases}
use Rattle.basis.proofs.Writing.{room_nothing, room_short}
use Rattle.basis.proofs.Rows.{refused_is, refused_first, then_row, then_rest}
use Rattle.sheet.specs.Sheet as Sheet
use Rattle.sheet.specs.Rows as Entries
use Rattle.sheet.proofs.Bytes.{entries_long}
use Rattle.sheet.proofs.Rows.{told as sheet-told}
use Rattle.groups.specs.Encode.{encode_all}
use Rattle.groups.specs.Decode.{Bytes}
use Rattle.groups.specs.Numbers.{damage, values}
use Rattle.groups.specs.Rows as Groups
use Rattle.groups.proofs.Rows.{holds_values, told as numbers-told}
use Rattle.jobfile.specs.Kind.{Kind, scaffold, support, count, examination, Row, Stands, kind_of, Marks}
use Rattle.jobfile.specs.Read.{refusal_as, job_as, job_in}
use Rattle.jobfile.specs.Write.{write_refusal}
use Rattle.jobfile.proofs.BothKinds.{told, kind_marks, stands_kind}
use Rattle.jobfile.proofs.Sizes.{narrow}
use Rattle.jobfile.proofs.Reading.{read_as_marked}
use Rattle.rembilung.specs.Call.{entries_of, refusal_in, report_in, text, sheet_refusal, input_refusal, call_refusal}
use Rattle.rembilung.specs.Table.{ReadRow, Reads, WriteRow, Writes, SheetStands, SheetRow, InputRow, Judges, CallRow, Answers, SomeJob, report_of}

-- ---- Reading

-- the report of a job is that of its kind
report_in_lem : (sheet : List ℕ) (k : Kind) (ns : List ℕ) → report_in (entries_of sheet) (Ok (job_as k ns)) ≡ report_of k sheet ns
report_in_lem sheet scaffold ns = refl
report_in_lem sheet support ns = refl

module _ (file : List ℕ) (w : Bytes file) where
  -- a file that is read as one of a kind
  module _ (k : Kind) where
    bytes_follow : Follows (damage (count k) 0 file) (Groups.Row (count k) file) ((ns : List ℕ) × Groups.Holds (count k) file ns)
    bytes_follow = numbers-told.told (count k) file w

    -- what is refused of a file that holds a kind's numbers is refused of them
    numbers_refusal : (ns : List ℕ) → Groups.Holds (count k) file ns → refusal_as k file ≡ examination k ns
    numbers_refusal ns h = then_rest bytes_follow (examination k (values (count k) file)) (ns, h) ∙ rw (holds_values (count k) file ns h)

    none_is : (ns : List ℕ) → Reads k file ns → refusal_as k file ≡ nothing
    none_is ns a = numbers_refusal ns a.holds ∙ (told k ns).none a.stands

    bytes_row : (n p : ℕ) → Groups.Row (count k) file n p → Refused (refusal_as k file) n p
    bytes_row n p r = then_row bytes_follow _ n p r

    job_row : (n p : ℕ) (ns : List ℕ) → Groups.Holds (count k) file ns → Row k ns n p → Refused (refusal_as k file) n p
    job_row n p ns h r = rw (numbers_refusal ns h) ((told k ns).row n p r)

    every_as : Marks k file → SomeJob (λ k ns. Reads k file ns) ⊎ Some (ReadRow file)
    every_as m = ⊎_elim (λ h. jobs h.0 h.1) (λ r. inr (r.0, (r.1.0, ReadRow.bytes k m _ _ r.1.1))) bytes_follow.every
      where
        jobs : (ns : List ℕ) → Groups.Holds (count k) file ns → SomeJob (λ k ns. Reads k file ns) ⊎ Some (ReadRow file)
        jobs ns h =
            ⊎_elim (λ s. inl (k, (ns, record { holds = h; stands = s }))) (λ r. inr (r.0, (r.1.0, ReadRow.job k m _ _ ns h r.1.1))) (told k ns).every

  -- a file of numbers that stand is read as one of their kind
  reads_kind : (k : Kind) (ns : List ℕ) → Reads k file ns → kind_of file ≡ k
  reads_kind k ns a =
      let h = a.holds in
      ap kind_of (h.is ∙ sym (append-nil (encode_all ns))) ∙ stands_kind k ns [] h.long a.stands h.narrow

  -- the job of a file that reads
  pub reads_job : (k : Kind) (ns : List ℕ) → Reads k file ns → job_in file ≡ Ok (job_as k ns)
  unfolding job_in
  reads_job k ns a = rw (reads_kind k ns a, none_is k ns a, holds_values (count k) file ns a.holds) refl

  -- the refusal of one that does not
  refused_as : (k : Kind) → Marks k file → (n p : ℕ) → Refused (refusal_as k file) n p → Refused (job_in file) n p
  refused_as k m n p r = rw (read_as_marked.read k file w m) (refused_first (Ok (job_as k (values (count k) file))) r)

  pub reads_refused : (n p : ℕ) → ReadRow file n p → Refused (job_in file) n p
  reads_refused n p (ReadRow.bytes k m a b r) = refused_as k m n p (bytes_row k n p r)
  reads_refused n p (ReadRow.job k m a b ns h r) = refused_as k m n p (job_row k n p ns h r)

  -- what the answer of reading refuses
  pub read_follows : Follows (refusal_in (job_in file)) (ReadRow file) (SomeJob (λ k ns. Reads k file ns))
  read_follows =
      record {
        row = λ n p r. let e = reads_refused n p r in record { refusal = e.refusal; is = ap refusal_in e.is; number_is = e.number_is; place_is = e.place_is };
        none = λ a. ap refusal_in (reads_job a.0 a.1.0 a.1.1);
        every = every_as (kind_of file) (kind_marks file w);
      }

-- numbers that stand are read from their file
pub stands_reads : (k : Kind) (ns : List ℕ) → length ns ≡ count k → Stands k ns → Reads k (encode_all ns) ns
stands_reads k ns l s = record { holds = record { is = refl; narrow = narrow k ns l s; long = l }; stands = s }

-- ---- Writing

module _ (k : Kind) (ns out : List ℕ) where
  -- numbers that stand are refused only for want of room
  write_room : Stands k ns → write_refusal k ns out ≡ room_refusal (encode_all ns) out
  write_room s = then_rest (told k ns) (room_refusal (encode_all ns) out) s

  pub write_follows : Follows (write_refusal k ns out) (WriteRow k ns out) (Writes k ns out)
  write_follows =
      record {
        row = row;
        none = λ a. write_room a.stands ∙ room_nothing (encode_all ns) out a.room;
        every = ⊎_elim rooms (λ r. inr (r.0, (r.1.0, WriteRow.job _ _ r.1.1))) (told k ns).every;
      }
    where
      row : (n p : ℕ) → WriteRow k ns out n p → Refused (write_refusal k ns out) n p
      row n p (WriteRow.job m q r) = then_row (told k ns) _ n p r
      row n p (WriteRow.short s h) = refused_is (TooShort (length (encode_all ns))) (write_room s ∙ room_short (encode_all ns) out h)

      rooms : Stands k ns → Writes k ns out ⊎ Some (WriteRow k ns out)
      rooms s =
          cases (leb (length (encode_all ns)) (length out)) (λ t. inl (record { stands = s; room = leb-true (length (encode_all ns)) (length out) t }))
          (λ t. inr (8, (length (encode_all ns), WriteRow.short s (leb-false (length (encode_all ns)) (length out) t))))

-- ---- The whole call

module _ (sheet : List ℕ) where
  entries_follow : Follows (Sheet.examination (entries_of sheet)) (Entries.Row (entries_of sheet)) (Entries.Stands (entries_of sheet))
  entries_follow = sheet-told.told (entries_of sheet)

  pub entries_stand : SheetStands sheet → Entries.Stands (entries_of sheet)
  entries_stand s = record { long = entries_long sheet 251; entries = s.entries }

  -- what is refused of 502 bytes is refused of their entries
  sheet_entries : length sheet ≡ 502 → sheet_refusal sheet ≡ Sheet.examination (entries_of sheet)
  sheet_entries l = ap (λ b. unless b (SheetLength (length sheet)) (Sheet.examination (entries_of sheet))) (eq-eqb (length sheet) 502 l)

  pub sheet_follows : Follows (sheet_refusal sheet) (SheetRow sheet) (SheetStands sheet)
  sheet_follows =
      record {
        row = row;
        none = λ s. sheet_entries s.bytes ∙ entries_follow.none (entries_stand s);
        every = cases (eqb (length sheet) 502) (λ t. let l = eqb-true (length sheet) 502 t in ⊎_elim (λ s. inl (record { bytes = l; entries = s.entries })) (λ r. inr (row_2 l r.0 r.1.0 r.1.1)) entries_follow.every)
            (λ t. inr (1, (length sheet, SheetRow.other_length (eqb-false (length sheet) 502 t))));
      }
    where
      row : (n p : ℕ) → SheetRow sheet n p → Refused (sheet_refusal sheet) n p
      row n p (SheetRow.other_length h) = refused_is (SheetLength (length sheet)) (rw (ne_eqb (length sheet) 502 h) refl)
      row n p (SheetRow.entry k l u f) = rw (sheet_entries l) (entries_follow.row 2 k (Entries.Row.entry k (entries_long sheet 251) u f))

      row_2 : length sheet ≡ 502 → (n p : ℕ) → Entries.Row (entries_of sheet) n p → Some (SheetRow sheet)
      row_2 l n p (Entries.Row.other_length h) = absurd (h (entries_long sheet 251))
      row_2 l n p (Entries.Row.entry k m u f) = (2, (k, SheetRow.entry k l u f))

module _ (sheet file : List ℕ) (w : Bytes file) where
  pub input_follows : Follows (input_refusal sheet file) (InputRow sheet file) (SomeJob (λ k ns. Judges k sheet file ns))
  input_follows =
      record {
        row = row;
        none = λ a. let j = a.1.1 in then_rest (sheet_follows sheet) (refusal_in (job_in file)) j.sheet_stands ∙ (read_follows file w).none (a.0, (a.1.0, j.reads));
        every = ⊎_elim files (λ r. inr (r.0, (r.1.0, InputRow.of_sheet _ _ r.1.1))) (sheet_follows sheet).every;
      }
    where
      row : (n p : ℕ) → InputRow sheet file n p → Refused (input_refusal sheet file) n p
      row n p (InputRow.of_sheet m q r) = then_row (sheet_follows sheet) (refusal_in (job_in file)) n p r
      row n p (InputRow.of_file m q s r) = rw (then_rest (sheet_follows sheet) (refusal_in (job_in file)) s) ((read_follows file w).row n p r)

      files : SheetStands sheet → SomeJob (λ k ns. Judges k sheet file ns) ⊎ Some (InputRow sheet file)
      files s =
          ⊎_elim (λ a. inl (a.0, (a.1.0, record { sheet_stands = s; reads = a.1.1 }))) (λ r. inr (r.0, (r.1.0, InputRow.of_file _ _ s r.1.1)))
          (read_follows file w).every

  -- the report of a call that judges
  pub text_is : (k : Kind) (ns : List ℕ) → Reads k file ns → text sheet file ≡ report_of k sheet ns
  text_is k ns a = ap (report_in (entries_of sheet)) (reads_job file w k ns a) ∙ report_in_lem sheet k ns

  module _ (out : List ℕ) where
    -- a sheet and a file that stand are refused only for want of room
    call_room : (k : Kind) (ns : List ℕ) → Judges k sheet file ns → call_refusal sheet file out ≡ room_refusal (report_of k sheet ns) out
    call_room k ns a = then_rest input_follows _ (k, (ns, a)) ∙ rw (text_is k ns a.reads)

    pub call_follows : Follows (call_refusal sheet file out) (CallRow sheet file out) (SomeJob (λ k ns. Answers k sheet file out ns))
    call_follows =
        record {
          row = row;
          none = λ a. call_room a.0 a.1.0 a.1.1.judges ∙ room_nothing _ out a.1.1.room;
          every = ⊎_elim (λ a. rooms a.0 a.1.0 a.1.1) (λ r. inr (r.0, (r.1.0, CallRow.of_input _ _ r.1.1))) input_follows.every;
        }
      where
        row : (n p : ℕ) → CallRow sheet file out n p → Refused (call_refusal sheet file out) n p
        row n p (CallRow.of_input m q r) = then_row input_follows _ n p r
        row n p (CallRow.short k ns a h) = refused_is (TooShort (length (report_of k sheet ns))) (call_room k ns a ∙ room_short (report_of k sheet ns) out h)

        rooms : (k : Kind) (ns : List ℕ) → Judges k sheet file ns → SomeJob (λ k ns. Answers k sheet file out ns) ⊎ Some (CallRow sheet file out)
        rooms k ns a =
            cases (leb (length (report_of k sheet ns)) (length out))
            (λ t. inl (k, (ns, record { judges = a; room = leb-true (length (report_of k sheet ns)) (length out) t })))
            (λ t. inr (8, (length (report_of k sheet ns), CallRow.short k ns a (leb-false (length (report_of k sheet ns)) (length out) t))))
