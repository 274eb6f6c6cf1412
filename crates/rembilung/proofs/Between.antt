-- What is asked of two ends, proved: from what crate between tells of them and from the rows of a job and of a sheet.
-- Assumes nothing.
use Prim.Native.Nat.{ℕ, ◌+◌, ◌≤◌}
use mathlib.Core.Path.{◌≡◌, ◌∙◌, refl, sym, ap}
use mathlib.Core.List.{List, []}
use mathlib.Core.Logic.{◌⊎◌, inl, inr, ⊎_elim}
use native.Mathlib.Omega.{arith}
use lib.Dec.{lit≤}
use lib.ListN.{length}
use Rattle.std.specs.Prelude.{Result, Ok}
use Rattle.basis.specs.Refusal.{number, place, Examined, nothing, unless, first}
use Rattle.basis.specs.declared.Refusal.TheVariants.{SheetLength}
use Rattle.basis.specs.declared.Refusal.{Refusal}
use Rattle.basis.specs.declared.Refusal.TheVariants as Case
use Rattle.basis.specs.Rows.{Some, Refused, Follows}
use Rattle.basis.proofs.Rows.{exactly, then_row, then_rest, refused_first}
use Rattle.job.specs.declared.Job.{Job}
use Rattle.job.specs.Job.{job_of}
use Rattle.job.specs.Rows as Job
use Rattle.job.specs.Examine.{examination}
use Rattle.job.proofs.Rows as Job-told
use borrow.Author.Tests.{eq-eqb}
use Rattle.section5.specs.Section5.{judgement}
use Rattle.judge.specs.Demand3.{stability_of}
use Rattle.judge.specs.Demand3 as Judge
use Rattle.judge.proofs.Demand.{verdict_judged}
use Rattle.between.specs.Order as Order
use Rattle.between.specs.declared.Between.{Between as Told}
use Rattle.between.specs.Order.{disorder}
use Rattle.between.specs.Between.{after_mild, of_harsh, told, outcome_at, height_number, numbers, answer}
use Rattle.between.specs.Throughout.{Holds}
use Rattle.between.specs.Throughout as Between
use Rattle.between.proofs.Throughout.{throughout}
use Rattle.between.proofs.Numbers as Numbers
use Rattle.between.proofs.Numbers.{check_number, mild_number, harsh_number, one_of, number_1, number_2, number_3}
use Rattle.between.proofs.Fields as Order-told
use Rattle.rembilung.specs.Call.{entries_of, sheet_refusal, refusal_in, between_told, told_count, told_left, between_code, between_buffer}
use Rattle.rembilung.specs.Table.{Refuses, SheetStands}
use Rattle.rembilung.specs.Between.{BetweenRow, Ends, Lies, verdict_at, height_of, Says, Between}
use Rattle.rembilung.specs.Header.{Halves}
use Rattle.rembilung.proofs.Table.{sheet_follows}
use Rattle.rembilung.proofs.Header.{halves}
use Rattle.rembilung.proofs.Answered.{in_refused, sheet_first, refuses}
use Rattle.rembilung.proofs.Demands.{judged, stability_judged}

-- ---- What is refused

-- the rows of a job are those of 3, 4 and 5
number_range : (j : Job) (n p : ℕ) → Job.Row j n p → (3 ≤ n) × (n ≤ 5)
number_range j n p (Job.Row.outside q f) = (lit≤ tt, lit≤ tt)
number_range j n p (Job.Row.layers i l) = (lit≤ tt, lit≤ tt)
number_range j n p (Job.Row.live i l m) = (lit≤ tt, lit≤ tt)
number_range j n p (Job.Row.thin a f l) = (lit≤ tt, lit≤ tt)
number_range j n p (Job.Row.weak a f l m) = (lit≤ tt, lit≤ tt)

-- of the harsh job the number is the same, and the place is 25 higher
moved : (r : Refusal) → 3 ≤ number r → number r ≤ 5 → (number (after_mild r) ≡ number r) × (place (after_mild r) ≡ place r + 25)
moved (Case.FieldRange at) l h = (refl, refl)
moved (Case.Contradiction at) l h = (refl, refl)
moved (Case.UnfitWall at) l h = (refl, refl)
moved r l h = absurd (omega arith)

of_harsh_row : (e : Examined) (n p : ℕ) → Refused e n p → 3 ≤ n → n ≤ 5 → Refused (of_harsh e) n (p + 25)
unfolding of_harsh
of_harsh_row e n p r l h =
    let m = moved r.refusal (omega (arith, r.number_is)) (omega (arith, r.number_is)) in
    record { refusal = after_mild r.refusal; is = rw r.is refl; number_is = m.0 ∙ r.number_is; place_is = m.1 ∙ ap (λ x. x + 25) r.place_is }

of_harsh_none : {e : Examined} → e ≡ nothing → of_harsh e ≡ nothing
unfolding of_harsh
of_harsh_none e = rw e refl

module _ (sheet mild harsh : List ℕ) where
  abbrev m : Job
  m = job_of mild

  abbrev k : Job
  k = job_of harsh

  -- what is told where nothing is refused
  abbrev both : Told
  both = told (judgement m (entries_of sheet)) (judgement k (entries_of sheet))

  -- each examination with what comes after it
  abbrev of_order : Result Told Refusal
  of_order = first (disorder m k) (Ok both)

  abbrev after_harsh : Result Told Refusal
  after_harsh = first (of_harsh (examination k)) of_order

  abbrev after_mild_job : Result Told Refusal
  after_mild_job = first (examination m) after_harsh

  told_is : between_told sheet mild harsh ≡ first (sheet_refusal sheet) after_mild_job
  told_is = sheet_first sheet after_mild_job

  from_sheet : SheetStands sheet → between_told sheet mild harsh ≡ after_mild_job
  from_sheet s = told_is ∙ then_rest (sheet_follows sheet) after_mild_job s

  from_mild : SheetStands sheet → Job.Stands m → between_told sheet mild harsh ≡ after_harsh
  from_mild s a = from_sheet s ∙ then_rest (Job-told.told.told m) after_harsh a

  from_harsh : SheetStands sheet → Job.Stands m → Job.Stands k → between_told sheet mild harsh ≡ of_order
  from_harsh s a b = from_mild s a ∙ ap (λ e. first e of_order) (of_harsh_none ((Job-told.told.told k).none b))

  answered : Ends sheet mild harsh → between_told sheet mild harsh ≡ Ok both
  answered e = from_harsh e.sheet_stands e.mild_stands e.harsh_stands ∙ then_rest (Order-told.told.told m k) (Ok both) e.ordered

  row : (n p : ℕ) → BetweenRow sheet mild harsh n p → Refused (between_told sheet mild harsh) n p
  row n p (BetweenRow.of_sheet i q r) = rw told_is (then_row (sheet_follows sheet) after_mild_job n p r)
  row n p (BetweenRow.of_mild s i q r) = rw (from_sheet s) (then_row (Job-told.told.told m) after_harsh n p r)
  row n p (BetweenRow.of_harsh s a i q r) =
      let l = number_range k i q r in
      rw (from_mild s a) (refused_first of_order (of_harsh_row (examination k) i q ((Job-told.told.told k).row i q r) l.0 l.1))
  row n p (BetweenRow.of_order s a b q f) = rw (from_harsh s a b) (then_row (Order-told.told.told m k) (Ok both) 12 q (Order.Row.unlike q f))

  every : Ends sheet mild harsh ⊎ Some (BetweenRow sheet mild harsh)
  every = ⊎_elim sheets (λ r. inr (r.0, (r.1.0, BetweenRow.of_sheet _ _ r.1.1))) (sheet_follows sheet).every
    where
      orders : SheetStands sheet → Job.Stands m → Job.Stands k → Ends sheet mild harsh ⊎ Some (BetweenRow sheet mild harsh)
      orders s a b = ⊎_elim (λ h. inl (record { sheet_stands = s; mild_stands = a; harsh_stands = b; ordered = h })) (λ r. order r.0 r.1.0 r.1.1) (Order-told.told.told m k).every
        where
          order : (n p : ℕ) → Order.Row m k n p → Ends sheet mild harsh ⊎ Some (BetweenRow sheet mild harsh)
          order n p (Order.Row.unlike q f) = inr (12, (q, BetweenRow.of_order s a b q f))

      harshes : SheetStands sheet → Job.Stands m → Ends sheet mild harsh ⊎ Some (BetweenRow sheet mild harsh)
      harshes s a = ⊎_elim (orders s a) (λ r. inr (r.0, (r.1.0 + 25, BetweenRow.of_harsh s a _ _ r.1.1))) (Job-told.told.told k).every

      sheets : SheetStands sheet → Ends sheet mild harsh ⊎ Some (BetweenRow sheet mild harsh)
      sheets s = ⊎_elim (harshes s) (λ r. inr (r.0, (r.1.0, BetweenRow.of_mild s _ _ r.1.1))) (Job-told.told.told m).every

  follows : Follows (refusal_in (between_told sheet mild harsh)) (BetweenRow sheet mild harsh) (Ends sheet mild harsh)
  follows = record { row = λ n p r. in_refused (between_told sheet mild harsh) n p (row n p r); none = λ e. rw (answered e) refl; every = every }

  -- ---- What is returned and left

  refused : (before : List ℕ) (n p : ℕ) → BetweenRow sheet mild harsh n p → Refuses n p (between_code sheet mild harsh) before (between_buffer sheet mild harsh before)
  unfolding between_code between_buffer
  refused before n p r =
      let f = row n p r in
      refuses (told_count 14 (between_told sheet mild harsh)) before (told_left numbers (between_told sheet mild harsh) before) (λ x e. rw e (refl, refl)) n p f

  returns : Ends sheet mild harsh → between_code sheet mild harsh ≡ 14
  unfolding between_code
  returns e = rw (answered e) refl

  leaves : (before : List ℕ) → Ends sheet mild harsh → between_buffer sheet mild harsh before ≡ numbers both
  unfolding between_buffer
  leaves before e = rw (answered e) refl

  halved : Halves (between_code sheet mild harsh) (BetweenRow sheet mild harsh) (Ends sheet mild harsh)
  halved = halves follows (between_code sheet mild harsh) (λ n p r. (refused [] n p r).code) (λ e. omega (arith, returns e))

-- ---- What the numbers say

-- of a job that stands, judging answers the paper's verdicts and its stability height
module _ (sheet : List ℕ) (s : SheetStands sheet) (j : Job) (a : Job.Stands j) where
  verdict_is : (i : ℕ) → Judge.verdict_at (entries_of sheet) j i ≡ verdict_at sheet j i
  verdict_is = verdict_judged (entries_of sheet) j (judged sheet j s a)

  height_is : stability_of (entries_of sheet) j ≡ height_of sheet j
  height_is = stability_judged (entries_of sheet) j (judged sheet j s a)

module _ (sheet mild harsh : List ℕ) (e : Ends sheet mild harsh) where
  abbrev b : Told
  b = both sheet mild harsh

  told_all : answer (entries_of sheet) (job_of mild) (job_of harsh) ≡ Ok b
  told_all = ap (λ t. unless t (SheetLength (length sheet)) (answer (entries_of sheet) (job_of mild) (job_of harsh))) (sym (eq-eqb (length sheet) 502 e.sheet_stands.bytes)) ∙ answered sheet mild harsh e

  held : Holds (entries_of sheet) (job_of mild) (job_of harsh) b
  held = throughout.holds (entries_of sheet) (job_of mild) (job_of harsh) b told_all

  lies : (j : Job) → Lies mild harsh j → Between.Lies (entries_of sheet) (job_of mild) (job_of harsh) j
  lies j l = record { accepted = judged sheet j e.sheet_stands l.stands; from_mild = l.from_mild; to_harsh = l.to_harsh }

  says : Says sheet mild harsh (numbers b)
  says =
      record {
        fourteen = Numbers.fourteen b;
        one_of = λ i l. rw (check_number b i l) (one_of (outcome_at b i));
        passes = λ i l n j h f. held.passes i l (number_1 (outcome_at b i) (sym (check_number b i l) ∙ n)) j (lies j h) (verdict_is sheet e.sheet_stands j h.stands i ∙ f);
        fails = λ i l n j h. sym (verdict_is sheet e.sheet_stands j h.stands i) ∙ held.fails i l (number_2 (outcome_at b i) (sym (check_number b i l) ∙ n)) j (lies j h);
        undecided = λ i l. rw (check_number b i l, ← verdict_is sheet e.sheet_stands (job_of mild) e.mild_stands i, ← verdict_is sheet e.sheet_stands (job_of harsh) e.harsh_stands i) (λ n. (held.undecided i l).0 ((number_3 (outcome_at b i)).0 n), λ h. (number_3 (outcome_at b i)).1 ((held.undecided i l).1 h));
        mild_height = mild_number b ∙ ap height_number (held.mild_height ∙ height_is sheet e.sheet_stands (job_of mild) e.mild_stands);
        harsh_height = harsh_number b ∙ ap height_number (held.harsh_height ∙ height_is sheet e.sheet_stands (job_of harsh) e.harsh_stands);
        heights = λ j h. rw (← height_is sheet e.sheet_stands j h.stands, ← height_is sheet e.sheet_stands (job_of mild) e.mild_stands, ← height_is sheet e.sheet_stands (job_of harsh) e.harsh_stands, ← held.mild_height, ← held.harsh_height) (held.heights j (lies j h));
      }

pub between : Between
between =
    record {
      refused = refused;
      answered = λ sheet mild harsh before e. (returns sheet mild harsh e, rw (leaves sheet mild harsh before e) (says sheet mild harsh e));
      exactly = λ sheet mild harsh. exactly (follows sheet mild harsh);
      halves = halved;
    }
