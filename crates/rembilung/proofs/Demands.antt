-- The three demands, proved.
-- Assumes nothing.
use mathlib.Core.Path.{◌≡◌, refl, sym, ap, ◌∙◌}
use mathlib.Core.List.{List, ◌++◌}
use mathlib.Core.Logic.{◌↔◌}
use Prim.Native.Nat.{ℕ, ◌/◌, ◌≤◌, ◌<◌}
use native.Mathlib.Omega.{arith}
use lib.Dec.{T, lit<}
use lib.ListN.{length, get_or, take, drop, set, length-set}
use lib.Seq.{take-append_seam, take_at}
use Rattle.basis.proofs.Rows.{exactly}
use Rattle.job.specs.declared.Job.{Job}
use Rattle.job.specs.Job.{job_of, numbers}
use Rattle.job.specs.Rows.{Inside, Stands}
use Rattle.job.proofs.Numbers.{numbers_job}
use Rattle.job.proofs.Rows.{stands_at}
use Rattle.groups.specs.Decode.{Bytes}
use Rattle.groups.specs.Encode.{encode_all}
use Rattle.groups.proofs.Encode.{bytes_all}
use Rattle.support.specs.Support.{support_of}
use Rattle.jobfile.specs.Kind.{Kind, scaffold, support, count}
use Rattle.report.specs.Report.{height_line, report}
use Rattle.section5.specs.Section5.{checks, verdicts, stability, poles, heights, judgement}
use Rattle.std.specs.Prelude.{Option, None, Some}
use Rattle.section5.specs.Poles.{NoHigher, UpTo, with_height}
use Rattle.section5.proofs.Poles.{poles_are_verdicts}
use Rattle.section5.specs.Formwork as Formwork
use Rattle.section5.specs.Harsher.{Harsher, HarsherSupport}
use Rattle.judge.specs.Answer.{Accepted, answer, verdict_in, heights_in, stability_told, permitted_told}
use Rattle.judge.specs.Demand3 as Judging
use Rattle.judge.proofs.Ways.{stands_accepted, accepted_answer}
use Rattle.judge.proofs.Demand.{verdict_judged, demand3}
use Rattle.formwork.specs.Answer.{Accepted as SupportAccepted}
use Rattle.formwork.specs.Order as Order
use Rattle.formwork.proofs.Ways as Supporting
use Rattle.formwork.proofs.Order.{order}
use Rattle.rembilung.specs.Call.{entries_of, call_code, call_buffer, write_code, write_buffer, read_code, read_buffer}
use Rattle.rembilung.specs.Table.{SheetStands, Reads, Judges, Answers, SomeJob, report_of}
use Rattle.rembilung.specs.Header.{report_most}
use Rattle.rembilung.specs.Shown.{verdict_shown, height_shown, permitted_shown}
use Rattle.rembilung.specs.Demands.{Demand1, Demand2, Demands}
use Rattle.rembilung.proofs.Table.{read_follows, stands_reads, write_follows, entries_stand, call_follows}
use Rattle.rembilung.proofs.Answered.{call_refused, call_answered, write_refused, write_answered, read_refused, read_count, read_numbers}
use Rattle.rembilung.proofs.Header.{write_halves, read_halves, header}
use Rattle.rembilung.proofs.Shown.{verdict_shown_lem, support_verdict_shown, heights_shown}

demand1 : Demand1
demand1 =
    record {
      call_refused = call_refused;
      call_answered = call_answered;
      call_exactly = λ sheet file out w. exactly (call_follows sheet file w out);
      write_refused = write_refused;
      write_answered = write_answered;
      write_exactly = λ k ns out l. exactly (write_follows k ns out);
      read_refused = λ file before w. read_refused file w before;
      read_answered = λ file before w l k ns a. (read_count file w k ns a, read_numbers file w before l k ns a);
      read_exactly = λ file w. exactly (read_follows file w);
    }

-- the report that an answered call leaves
reported : (k : Kind) (sheet file out : List ℕ) → Bytes file → (ns : List ℕ) → Answers k sheet file out ns → call_buffer sheet file out ≡ report_of k sheet ns ++ drop (call_code sheet file out) out
reported k sheet file out w ns a = let e = call_answered sheet file out w k ns a in rw e.0 e.1

-- the numbers of a file that was written, read back
job_back : (k : Kind) (ns out before : List ℕ) → length ns ≡ count k → length before ≡ 25 → write_code k ns out / 4294967296 ≡ 0 →
    (let file = take (write_code k ns out) (write_buffer k ns out) in
    (read_code file ≡ count k) × (read_buffer file before ≡ ns ++ drop (count k) before))
job_back k ns out before l m e =
    let a = (write_halves k ns out l).only e in
    let f = write_answered k ns out l a in
    let r = stands_reads k ns l a.stands in
    let w = bytes_all ns r.holds.narrow in
    rw (f.0, f.1, take-append_seam) (read_count (encode_all ns) w k ns r, read_numbers (encode_all ns) w before m k ns r)

-- a count tells the kind
count_kind : (k l : Kind) → count k ≡ count l → k ≡ l
count_kind scaffold scaffold e = refl
count_kind scaffold support e = absurd (omega arith)
count_kind support scaffold e = absurd (omega arith)
count_kind support support e = refl

-- the file of numbers that were read, written back
file_back : (k : Kind) (file before out : List ℕ) → Bytes file → length before ≡ 25 → read_code file ≡ count k → length file ≤ length out →
    (let ns = take (count k) (read_buffer file before) in
    (write_code k ns out ≡ length file) × (write_buffer k ns out ≡ file ++ drop (length file) out))
file_back k file before out w m e l = go ((read_halves file w).only (rw e (small k)))
  where
    small : (k : Kind) → count k / 4294967296 ≡ 0
    small scaffold = refl
    small support = refl

    go : SomeJob (λ k ns. Reads k file ns) →
        (let ns = take (count k) (read_buffer file before) in
        (write_code k ns out ≡ length file) × (write_buffer k ns out ≡ file ++ drop (length file) out))
    go a =
        let ns = a.1.0 in
        let same : a.0 ≡ k = count_kind a.0 k (sym (read_count file w a.0 ns a.1.1) ∙ e) in
        let r : Reads k file ns = rw same at a.1.1 in
        let h = r.holds in
        rw (read_numbers file w before m k ns r, take_at ns _ (count k) h.long, h.is) (write_answered k ns out h.long (record { stands = r.stands; room = rw h.is at l }))

demand2 : Demand2
unfolding report judgement Formwork.judgement height_line
demand2 = record { reported = reported scaffold; support_reported = reported support; job_back = job_back; file_back = file_back }

-- ---- Demand 3

module _ (sheet file out : List ℕ) (w : Bytes file) (ns : List ℕ) (a : Answers scaffold sheet file out ns) where
  pub verdict_is : (i : ℕ) → i < checks → verdict_shown (call_buffer sheet file out) i ≡ get_or (verdicts (job_of ns) (entries_of sheet)) i 0
  verdict_is i l = rw (call_answered sheet file out w scaffold ns a).1 (verdict_shown_lem (job_of ns) (entries_of sheet) _ i l)

  height_is : height_shown (call_buffer sheet file out) ≡ stability (job_of ns) (entries_of sheet)
  height_is = rw (call_answered sheet file out w scaffold ns a).1 (heights_shown (job_of ns) (entries_of sheet) _).0

  permitted_is : permitted_shown (call_buffer sheet file out) ≡ permitted_told (heights (job_of ns) (stability (job_of ns) (entries_of sheet)))
  permitted_is = rw (call_answered sheet file out w scaffold ns a).1 (heights_shown (job_of ns) (entries_of sheet) _).1

-- judging accepts a job that stands, under a sheet that does
pub judged : (sheet : List ℕ) (j : Job) → SheetStands sheet → Stands j → Accepted (entries_of sheet) j
judged sheet j s a = stands_accepted (entries_of sheet) j (entries_stand sheet s) a

-- so it accepts what the call judges
accepted : (sheet file ns : List ℕ) → Judges scaffold sheet file ns → Accepted (entries_of sheet) (job_of ns)
accepted sheet file ns a = judged sheet (job_of ns) a.sheet_stands a.reads.stands

module _ (s : List ℕ) (j : Job) (a : Accepted s j) where
  heights_judged : heights_in (answer s j) ≡ heights j (stability j s)
  unfolding judgement
  heights_judged = ap heights_in (accepted_answer s j a)

  pub stability_judged : Judging.stability_of s j ≡ stability j s
  unfolding heights
  stability_judged = rw heights_judged (told (stability j s))
    where
      told : (H : Option ℕ) → stability_told (heights j H) ≡ H
      told None = refl
      told (Some H) = refl

  permitted_judged : Judging.permitted_of s j ≡ permitted_told (heights j (stability j s))
  permitted_judged = ap permitted_told heights_judged

module _ (sheet file₁ file₂ out₁ out₂ : List ℕ) (w₁ : Bytes file₁) (w₂ : Bytes file₂) (n₁ n₂ : List ℕ)
    (a : Answers scaffold sheet file₁ out₁ n₁) (b : Answers scaffold sheet file₂ out₂ n₂) (h : Harsher (job_of n₁) (job_of n₂)) where
  first : Accepted (entries_of sheet) (job_of n₁)
  first = accepted sheet file₁ n₁ a.judges

  second : Accepted (entries_of sheet) (job_of n₂)
  second = accepted sheet file₂ n₂ b.judges

  no_pass_gained : (i : ℕ) → i < checks → verdict_shown (call_buffer sheet file₁ out₁) i ≡ 2 → verdict_shown (call_buffer sheet file₂ out₂) i ≡ 2
  no_pass_gained i l =
      rw (verdict_is sheet file₁ out₁ w₁ n₁ a i l, verdict_is sheet file₂ out₂ w₂ n₂ b i l, ← verdict_judged _ _ first i, ← verdict_judged _ _ second i)
      (demand3.no_pass_gained (entries_of sheet) (job_of n₁) (job_of n₂) first second h i)

  no_height_gained : NoHigher (height_shown (call_buffer sheet file₂ out₂)) (height_shown (call_buffer sheet file₁ out₁))
  no_height_gained =
      rw (height_is sheet file₁ out₁ w₁ n₁ a, height_is sheet file₂ out₂ w₂ n₂ b, ← stability_judged (entries_of sheet) (job_of n₁) first, ← stability_judged (entries_of sheet) (job_of n₂) second)
      (demand3.no_height_gained (entries_of sheet) (job_of n₁) (job_of n₂) first second h)

  no_more_permitted : NoHigher (permitted_shown (call_buffer sheet file₂ out₂)) (permitted_shown (call_buffer sheet file₁ out₁))
  no_more_permitted =
      rw (permitted_is sheet file₁ out₁ w₁ n₁ a, permitted_is sheet file₂ out₂ w₂ n₂ b, ← permitted_judged (entries_of sheet) (job_of n₁) first, ← permitted_judged (entries_of sheet) (job_of n₂) second)
      (demand3.no_more_permitted (entries_of sheet) (job_of n₁) (job_of n₂) first second h)

height_exact : (sheet file out : List ℕ) → Bytes file → (ns : List ℕ) → Answers scaffold sheet file out ns
    → (H : ℕ) → H ≤ 6000 → T (poles (job_of ns) (entries_of sheet) H) ↔ UpTo H (height_shown (call_buffer sheet file out))
height_exact sheet file out w ns a H l =
    let c = accepted sheet file ns a.judges in
    rw (height_is sheet file out w ns a, ← stability_judged _ _ c) (demand3.height_exact (entries_of sheet) (job_of ns) c H l)

-- the same numbers with another height, where field 7 allows it, are judged too
module _ (sheet file ns : List ℕ) (H : ℕ) (a : Judges scaffold sheet file ns) (i : Inside (job_of (set ns 6 H)) 7) where
  same : numbers (job_of ns) ≡ ns
  same = numbers_job ns a.reads.holds.long

  judges_at : Judges scaffold sheet (encode_all (set ns 6 H)) (set ns 6 H)
  judges_at =
      let s : Stands (job_of (set ns 6 H)) = rw same at (stands_at (job_of ns) H a.reads.stands (rw same i)) in
      record { sheet_stands = a.sheet_stands; reads = stands_reads scaffold (set ns 6 H) (length-set ns 6 H ∙ a.reads.holds.long) s }

  at_height : with_height H (job_of ns) ≡ job_of (set ns 6 H)
  unfolding with_height
  at_height = ap (λ (l : List ℕ). job_of (set l 6 H)) same

  poles_shown : (out : List ℕ) → report_most scaffold ≤ length out →
      (let shown = call_buffer sheet (encode_all (set ns 6 H)) out in
      T (poles (job_of ns) (entries_of sheet) H) ↔ ((verdict_shown shown 6 ≡ 2 → ⊥) × (verdict_shown shown 7 ≡ 2 → ⊥)))
  poles_shown out l =
      let b = header.report_room scaffold sheet _ out _ judges_at l in
      let w = bytes_all (set ns 6 H) judges_at.reads.holds.narrow in
      rw (verdict_is sheet _ out w _ b 6 (lit< tt), verdict_is sheet _ out w _ b 7 (lit< tt))
      (rw at_height at (poles_are_verdicts.pass (job_of ns) (entries_of sheet) H))

-- ---- Supports

support_accepted : (sheet file ns : List ℕ) → Judges support sheet file ns → SupportAccepted (entries_of sheet) (support_of ns)
support_accepted sheet file ns a = Supporting.stands_accepted (entries_of sheet) (support_of ns) (entries_stand sheet a.sheet_stands) a.reads.stands

module _ (sheet file out : List ℕ) (w : Bytes file) (ns : List ℕ) (a : Answers support sheet file out ns) where
  support_verdict_is : (i : ℕ) → i < checks → verdict_shown (call_buffer sheet file out) i ≡ Order.verdict_at (entries_of sheet) (support_of ns) i
  unfolding Formwork.judgement
  support_verdict_is i l =
      rw (call_answered sheet file out w support ns a).1
      (support_verdict_shown (support_of ns) (entries_of sheet) _ i l ∙ sym (ap (λ r. verdict_in r i) (Supporting.accepted_answer (entries_of sheet) (support_of ns) (support_accepted sheet file ns a.judges))))

support_no_pass_gained : (sheet file₁ file₂ out₁ out₂ : List ℕ) → Bytes file₁ → Bytes file₂ → (n₁ n₂ : List ℕ)
    → Answers support sheet file₁ out₁ n₁ → Answers support sheet file₂ out₂ n₂ → HarsherSupport (support_of n₁) (support_of n₂)
    → (i : ℕ) → i < checks → verdict_shown (call_buffer sheet file₁ out₁) i ≡ 2 → verdict_shown (call_buffer sheet file₂ out₂) i ≡ 2
support_no_pass_gained sheet file₁ file₂ out₁ out₂ w₁ w₂ n₁ n₂ a b h i l =
    rw (support_verdict_is sheet file₁ out₁ w₁ n₁ a i l, support_verdict_is sheet file₂ out₂ w₂ n₂ b i l)
    (order.no_pass_gained (entries_of sheet) (support_of n₁) (support_of n₂) (support_accepted sheet file₁ n₁ a.judges) (support_accepted sheet file₂ n₂ b.judges) h i)

pub demands : Demands
demands =
    record {
      one = demand1;
      two = demand2;
      three =
          record {
            no_pass_gained = no_pass_gained;
            no_height_gained = no_height_gained;
            no_more_permitted = no_more_permitted;
            height_exact = height_exact;
            poles_shown = λ sheet file ns a H i. poles_shown sheet file ns H a i;
          };
      supports = record { no_pass_gained = support_no_pass_gained };
    }
