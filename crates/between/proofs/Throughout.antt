-- What is told of two ends holds of every job between them.
-- Assumes nothing.
use mathlib.Core.Path.{◌≡◌, ◌∙◌, refl, sym}
use mathlib.Core.List.{List}
use mathlib.Core.Logic.{◌↔◌}
use Prim.Native.Nat.{ℕ, ◌<◌}
use native.Mathlib.Omega.{arith}
use lib.Dec.{eqb, lit<}
use lib.ListN.{get_or}
use borrow.Author.Tests.{eqb-true, eqb-false, eq-eqb, ne_eqb}
use Rattle.std.specs.Prelude.{Ok, Err}
use Rattle.std.proofs.lemmas.List.FromFn.{get_or-map-range_with_len}
use Rattle.basis.specs.Refusal.{Examined, nothing}
use Rattle.basis.proofs.Refusals.{first_answers, first_nothing}
use Rattle.basis.proofs.Rows.{unrefused}
use Rattle.basis.proofs.Tests.{cases}
use Rattle.job.specs.declared.Job.{Job}
use Rattle.job.specs.Examine.{examination}
use Rattle.sheet.specs.Sheet as Sheet
use Rattle.section5.specs.Section5.{checks, judgement, paper, soil_factor}
use Rattle.sheet.specs.SheetT.{sheet_T}
use Rattle.job.specs.JobJ.{job_J, job_J_with}
use Rattle.judge.specs.Marked.{examined}
use Rattle.basis.specs.Fraction.{ceil, ◌≼◌, up, down, fractions}
use Rattle.between.specs.Marked.{firm}
use Rattle.section5.specs.Harsher.{Harsher}
use Rattle.judge.specs.Answer.{Accepted}
use Rattle.judge.specs.Demand3.{verdict_at, stability_of}
use Rattle.judge.proofs.Ways.{accepted_answer}
use Rattle.judge.proofs.Demand.{demand3}
use Rattle.between.specs.declared.Between.{Between}
use Rattle.between.specs.declared.Outcome.{Outcome}
use Rattle.between.specs.declared.Outcome.TheVariants.{PassesThroughout, FailsThroughout, Undecided}
use Rattle.between.specs.Outcome.{outcome, outcomes}
use Rattle.between.specs.Order.{in_order, disorder}
use Rattle.between.specs.Between.{of_harsh, told, outcome_at, answer}
use Rattle.between.specs.Throughout.{Holds, Throughout}
use Rattle.between.proofs.Fields as Order

-- what each outcome says of the two verdicts
passes_is : (v w : ℕ) → outcome v w ≡ PassesThroughout → w ≡ 2 → ⊥
passes_is v w e q = cases (eqb v 2) (λ t. absurd (cc (rw t at e))) (λ t. absurd (cc (rw (t, eq-eqb w 2 q) at e)))

fails_is : (v w : ℕ) → outcome v w ≡ FailsThroughout → v ≡ 2
fails_is v w e =
    cases (eqb v 2) (eqb-true v 2) (λ t. cases (eqb w 2) (λ u. absurd (cc (rw (t, u) at e))) (λ u. absurd (cc (rw (t, u) at e))))

undecided_is : (v w : ℕ) → (outcome v w ≡ Undecided) ↔ ((v ≡ 2 → ⊥) × (w ≡ 2))
undecided_is v w = (
  λ e. cases (eqb v 2) (λ t. absurd (cc (rw t at e))) (λ t. cases (eqb w 2) (λ u. (eqb-false v 2 t, eqb-true w 2 u)) (λ u. absurd (cc (rw (t, u) at e)))),
  λ h. rw (ne_eqb v 2 h.0, eq-eqb w 2 h.1) refl,
)

-- of what is answered: nothing is refused of either end, nor of their order, and it is what is told of their judgements
record Parts (sheet : List ℕ) (m k : Job) (b : Between) : Type 0 where
  sheet_stands : Sheet.examination sheet ≡ nothing
  mild : examination m ≡ nothing
  harsh : examination k ≡ nothing
  in_order : disorder m k ≡ nothing
  is : b ≡ told (judgement m sheet) (judgement k sheet)

of_harsh_nothing : (e : Examined) → of_harsh e ≡ nothing → e ≡ nothing
unfolding of_harsh
of_harsh_nothing (Ok none) e = e
of_harsh_nothing (Err r) e = absurd (cc)

parts : (sheet : List ℕ) (m k : Job) (b : Between) → answer sheet m k ≡ Ok b → Parts sheet m k b
parts sheet m k b e =
    let f = first_answers (Sheet.examination sheet) _ e in
    let g = first_answers (examination m) _ f.1 in
    let h = first_answers (of_harsh (examination k)) _ g.1 in
    let i = first_answers (disorder m k) _ h.1 in
    record { sheet_stands = f.0; mild = g.0; harsh = of_harsh_nothing (examination k) h.0; in_order = i.0; is = cc i.1 }

module _ (sheet : List ℕ) (m k : Job) (b : Between) (e : answer sheet m k ≡ Ok b) where
  a : Parts sheet m k b
  a = parts sheet m k b e

  mild_accepted : Accepted sheet m
  mild_accepted = rw a.sheet_stands a.mild

  harsh_accepted : Accepted sheet k
  harsh_accepted = rw a.sheet_stands a.harsh

  ordered : Harsher m k
  ordered = unrefused (Order.told.told m k) a.in_order

  outcome_is : (i : ℕ) → i < checks → outcome_at b i ≡ outcome (verdict_at sheet m i) (verdict_at sheet k i)
  unfolding outcomes
  outcome_is i l =
      rw (a.is, accepted_answer sheet m mild_accepted, accepted_answer sheet k harsh_accepted)
      (get_or-map-range_with_len (λ n. outcome (get_or ((judgement m sheet).verdicts) n 0) (get_or ((judgement k sheet).verdicts) n 0)) 0 checks i i Undecided l (omega arith))

  mild_height : b.mild ≡ stability_of sheet m
  mild_height = rw (a.is, accepted_answer sheet m mild_accepted) refl

  harsh_height : b.harsh ≡ stability_of sheet k
  harsh_height = rw (a.is, accepted_answer sheet k harsh_accepted) refl

  holds : Holds sheet m k b
  holds =
      record {
        mild_accepted = mild_accepted;
        harsh_accepted = harsh_accepted;
        ordered = ordered;
        passes = λ i l o j h f. passes_is (verdict_at sheet m i) (verdict_at sheet k i) (sym (outcome_is i l) ∙ o) (demand3.no_pass_gained sheet j k h.accepted harsh_accepted h.to_harsh i f);
        fails = λ i l o j h. demand3.no_pass_gained sheet m j mild_accepted h.accepted h.from_mild i (fails_is (verdict_at sheet m i) (verdict_at sheet k i) (sym (outcome_is i l) ∙ o));
        undecided = λ i l. (λ o. (undecided_is (verdict_at sheet m i) (verdict_at sheet k i)).0 (sym (outcome_is i l) ∙ o), λ h. outcome_is i l ∙ (undecided_is (verdict_at sheet m i) (verdict_at sheet k i)).1 h);
        mild_height = mild_height;
        harsh_height = harsh_height;
        heights = λ j h. (rw mild_height (demand3.no_height_gained sheet m j mild_accepted h.accepted h.from_mild), rw harsh_height (demand3.no_height_gained sheet j k h.accepted harsh_accepted h.to_harsh));
      }

every : (sheet : List ℕ) (m k : Job) → Accepted sheet m → Accepted sheet k → Harsher m k → (b : Between) × (answer sheet m k ≡ Ok b)
unfolding of_harsh
every sheet m k f g h =
    let s = first_nothing (Sheet.examination sheet) (examination m) f in
    let t = first_nothing (Sheet.examination sheet) (examination k) g in
    (told (judgement m sheet) (judgement k sheet), rw (s.0, s.1, t.1, (Order.told.told m k).none h) refl)

-- of a pair of the order, what the verdicts on check i say is said of it
said : (m k : Job) → Accepted sheet_T m → Accepted sheet_T k → Harsher m k → (i : ℕ) → i < checks → (o : Outcome) → outcome (verdict_at sheet_T m i) (verdict_at sheet_T k i) ≡ o
    → (m : Job) × ((k : Job) × ((b : Between) × ((i : ℕ) × ((i < checks) × (answer sheet_T m k ≡ Ok b) × (outcome_at b i ≡ o)))))
said m k f g h i l o e = let t = every sheet_T m k f g h in (m, (k, (t.0, (i, (l, t.1, outcome_is sheet_T m k t.0 t.1 i l ∙ e)))))

-- from firm ground to J's every check but 11 passes throughout, and 11 is undecided; of J and J it fails throughout
firm_accepted : Accepted sheet_T firm
unfolding sheet_T examined firm job_J_with
firm_accepted = refl

J_accepted : Accepted sheet_T job_J
unfolding sheet_T examined job_J
J_accepted = refl

firm_ordered : disorder firm job_J ≡ nothing
unfolding disorder in_order firm job_J job_J_with ◌≼◌ fractions soil_factor
firm_ordered = refl

firm_milder : Harsher firm job_J
firm_milder = unrefused (Order.told.told firm job_J) firm_ordered

eleventh : (verdict_at sheet_T firm 10 ≡ 1) × (verdict_at sheet_T job_J 10 ≡ 2)
unfolding sheet_T examined firm job_J job_J_with paper ceil ◌≼◌ up down
eleventh = (refl, refl)

occurs : (o : Outcome) → (m : Job) × ((k : Job) × ((b : Between) × ((i : ℕ) × ((i < checks) × (answer sheet_T m k ≡ Ok b) × (outcome_at b i ≡ o)))))
occurs PassesThroughout = said firm firm firm_accepted firm_accepted (demand3.reflexive firm) 10 (lit< tt) PassesThroughout (rw eleventh.0 refl)
occurs FailsThroughout = said job_J job_J J_accepted J_accepted (demand3.reflexive job_J) 10 (lit< tt) FailsThroughout (rw eleventh.1 refl)
occurs Undecided = said firm job_J firm_accepted J_accepted firm_milder 10 (lit< tt) Undecided (rw (eleventh.0, eleventh.1) refl)

pub throughout : Throughout
throughout = record { holds = holds; every = every; occurs = occurs }
