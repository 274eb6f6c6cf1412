-- The verdicts and the heights that a report shows are the paper's.
-- Assumes nothing.
use mathlib.Core.Path.{◌≡◌, refl, ap, ◌∙◌}
use mathlib.Core.Bool.{false}
use mathlib.Core.List.{List, [], ◌∷◌, ◌++◌, append_assoc}
use Prim.Native.Nat.{ℕ, zero, suc, ◌%◌, ◌<◌}
use native.Mathlib.Omega.{arith}
use lib.Dec.{eqb, lit<}
use lib.ListN.{length, get_or}
use borrow.Author.Tests.{eq-eqb, ne_eqb}
use Rattle.job.specs.declared.Job.{Job}
use Rattle.support.specs.declared.Support.{Support}
use Rattle.section5.specs.declared.Judgement.{Judgement}
use Rattle.std.specs.Prelude.{Option, None, Some}
use Rattle.section5.specs.Section5.{checks, verdicts, figures, stability, permitted, heights, judgement}
use Rattle.section5.specs.Formwork as Formwork
use Rattle.judge.specs.Answer.{permitted_told}
use Rattle.report.specs.Digits.{digit_byte, digits}
use Rattle.report.specs.Report.{space, line_end, number_then, check_line, check_lines, pair, pair_line, height_line, report}
use Rattle.report.specs.ReadBack.{number_at, NoDigitFirst}
use Rattle.report.proofs.Digits.{decimal, one, more}
use Rattle.report.proofs.ReadBack.{read_back}
use Rattle.rembilung.specs.Shown.{after, after_lines, shown_in, verdict_shown, height_at, height_shown, permitted_at, permitted_shown}

after_here : (b : ℕ) (l : List ℕ) → after b (b ∷ l) ≡ l
unfolding after
after_here b l = simp (eq-eqb b b refl)

after_other : (b x : ℕ) (l : List ℕ) → (x ≡ b → ⊥) → after b (x ∷ l) ≡ after b l
unfolding after
after_other b x l h = simp (ne_eqb x b h)

-- no digit is a byte below 48
after_digits : (b : ℕ) → b < 48 → (n : ℕ) (l : List ℕ) → after b (digits n ++ l) ≡ after b l
after_digits b h =
    decimal (λ n. (l : List ℕ) → after b (digits n ++ l) ≡ after b l) (λ n k l. rw (one n k) (after_other b (digit_byte n) l (λ e. omega arith)))
    (λ n k ih l. rw (more n k, append_assoc) (ih _ ∙ after_other b (digit_byte (n % 10)) l (λ e. omega arith)))

-- nor is a number's first above 57
first_below : (n : ℕ) (l : List ℕ) → get_or (digits n ++ l) 0 0 < 58
first_below =
    decimal (λ n. (l : List ℕ) → get_or (digits n ++ l) 0 0 < 58) (λ n k l. rw (one n k) (omega arith)) (λ n k ih l. rw (more n k, append_assoc) (ih _))

-- a number that the byte ends, and one that another byte ends
ended : (b n : ℕ) (l : List ℕ) → b < 48 → after b (number_then n b ++ l) ≡ l
unfolding number_then
ended b n l h = rw append_assoc (after_digits b h n (b ∷ l) ∙ after_here b l)

passed : (b n a : ℕ) (l : List ℕ) → b < 48 → (a ≡ b → ⊥) → after b (number_then n a ++ l) ≡ after b l
unfolding number_then
passed b n a l h g = rw append_assoc (after_digits b h n (a ∷ l) ∙ after_other b a l g)

-- a number and a byte that is no digit are read as the number
number_read : (n after : ℕ) (l : List ℕ) → NoDigitFirst (after ∷ l) → number_at (number_then n after ++ l) ≡ n
unfolding number_then
number_read n after l h = rw append_assoc (read_back.back n (after ∷ l) h)

-- no number begins with the byte of "n"
never_n : (n after : ℕ) (l : List ℕ) → eqb (get_or (number_then n after ++ l) 0 0) 110 ≡ false
unfolding number_then
never_n n after l = rw append_assoc (ne_eqb (get_or (digits n ++ (after ∷ l)) 0 0) 110 (λ e. omega (arith, first_below n (after ∷ l))))

-- so two numbers with which a line ends are read as both heights
pair_heights : (m n : ℕ) (l : List ℕ) → (height_at (pair m n ++ l) ≡ Some m) × (permitted_at (pair m n ++ l) ≡ Some n)
unfolding pair height_at permitted_at
pair_heights m n l =
    rw (append_assoc, never_n m space (number_then n line_end ++ l), ended space m (number_then n line_end ++ l) (lit< tt))
    (ap Some (number_read m space _ refl), ap Some (number_read n line_end l refl))

line_end_lem : (c v f : ℕ) (l : List ℕ) → after line_end (check_line c v f ++ l) ≡ l
unfolding check_line
line_end_lem c v f l =
    simp append_assoc
    (passed 10 c 32 _ (lit< tt) (λ e. omega arith) ∙ (passed 10 v 32 _ (lit< tt) (λ e. omega arith) ∙ ended 10 f l (lit< tt)))

-- the verdict of the first line
first_line : (c v f : ℕ) (l : List ℕ) → number_at (after space (check_line c v f ++ l)) ≡ v
unfolding check_line
first_line c v f l = simp append_assoc (rw (ended 32 c _ (lit< tt)) (number_read v space _ refl))

lines_show : (c : ℕ) (vs fs rest : List ℕ) (i : ℕ) → length vs ≡ length fs → i < length vs → verdict_shown (check_lines c vs fs ++ rest) i ≡ get_or vs i 0
unfolding check_lines verdict_shown shown_in after_lines
lines_show c [] fs rest i e l = absurd (omega arith)
lines_show c (v ∷ vs) [] rest i e l = absurd (omega arith)
lines_show c (v ∷ vs) (f ∷ fs) rest zero e l = rw (append_assoc, first_line c v f _)
lines_show c (v ∷ vs) (f ∷ fs) rest (suc i) e l = rw (append_assoc, line_end_lem c v f _) (lines_show (suc c) vs fs rest i (omega arith) (omega arith))

-- what follows the lines of the checks
lines_end : (c : ℕ) (vs fs rest : List ℕ) → length vs ≡ length fs → after_lines (length vs) (check_lines c vs fs ++ rest) ≡ rest
unfolding check_lines after_lines
lines_end c [] fs rest e = refl
lines_end c (v ∷ vs) [] rest e = absurd (omega arith)
lines_end c (v ∷ vs) (f ∷ fs) rest e = rw append_assoc (ap (after_lines (length vs)) (line_end_lem c v f _) ∙ lines_end (suc c) vs fs rest (omega arith))

-- the heights of the line after the checks
line_heights : (j : Job) (H : Option ℕ) (l : List ℕ) →
    (let shown = after space (height_line (heights j H) ++ l) in (height_at shown ≡ H) × (permitted_at shown ≡ permitted_told (heights j H)))
unfolding height_line heights after height_at permitted_at pair_line
line_heights j None l = (refl, refl)
line_heights j (Some H) l = pair_heights H (permitted j H) l

-- the report of any judgement shows its verdicts
verdicts_shown : (g : Judgement) (rest : List ℕ) (i : ℕ) → length g.verdicts ≡ length g.figures → i < length g.verdicts → verdict_shown (report g ++ rest) i ≡ get_or g.verdicts i 0
unfolding report
verdicts_shown g rest i e l = rw append_assoc (lines_show 1 g.verdicts g.figures _ i e l)

pub verdict_shown_lem : (j : Job) (s rest : List ℕ) (i : ℕ) → i < checks → verdict_shown (report (judgement j s) ++ rest) i ≡ get_or (verdicts j s) i 0
unfolding judgement verdicts figures
verdict_shown_lem j s rest i l = verdicts_shown (judgement j s) rest i refl l

pub support_verdict_shown : (s : Support) (sheet rest : List ℕ) (i : ℕ) → i < checks → verdict_shown (report (Formwork.judgement s sheet) ++ rest) i ≡ get_or (Formwork.verdicts s sheet) i 0
unfolding Formwork.judgement Formwork.verdicts Formwork.figures
support_verdict_shown s sheet rest i l = verdicts_shown (Formwork.judgement s sheet) rest i refl l

pub heights_shown : (j : Job) (s rest : List ℕ) →
    (let text = report (judgement j s) ++ rest in
    (height_shown text ≡ stability j s) × (permitted_shown text ≡ permitted_told (heights j (stability j s))))
unfolding report judgement height_shown permitted_shown shown_in verdicts figures
heights_shown j s rest =
    simp append_assoc (
      ap (λ t. height_at (after space t)) (lines_end 1 (verdicts j s) (figures j s) _ refl) ∙ (line_heights j (stability j s) _).0,
      ap (λ t. permitted_at (after space t)) (lines_end 1 (verdicts j s) (figures j s) _ refl) ∙ (line_heights j (stability j s) _).1,
    )
