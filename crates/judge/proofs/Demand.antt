-- Demand 3, proved of what judging answers.
-- Assumes nothing.
use mathlib.Core.Path.{◌≡◌, refl, ap, sym, ◌∙◌}
use mathlib.Core.Bool.{Bool}
use mathlib.Core.List.{List}
use mathlib.Core.Logic.{◌↔◌}
use Prim.Native.Nat.{ℕ, zero, suc, ◌≤◌, ◌<◌}
use native.Mathlib.Omega.{arith}
use lib.Dec.{T}
use lib.ListN.{get_or}
use Rattle.std.specs.Prelude.{Ok}
use Rattle.basis.specs.Fraction.{fractions, ceil, ◌≼◌, up}
use Rattle.basis.proofs.Order.{mono, at_most_itself}
use Rattle.basis.proofs.Searches.{top_exact}
use Rattle.job.specs.declared.Job.{Job}
use Rattle.job.specs.JobJ.{half_closed_J}
use Rattle.job.proofs.Bounds.{bounds}
use Rattle.section5.specs.Section5 as P
use Rattle.sheet.specs.SheetT.{sheet_T}
use Rattle.section5.specs.Poles.{NoHigher, UpTo}
use Rattle.section5.specs.Harsher.{Harsher}
use Rattle.calculation.specs.Whole as W
use Rattle.calculation.proofs.Same.{judgement_same, poles_same}
use Rattle.calculation.proofs.Verdicts.{worse_at}
use Rattle.calculation.proofs.Permitted.{permitted_grows}
use Rattle.calculation.proofs.Keep.{worse, keep_poles, count_falls}
use Rattle.judge.specs.Answer.{Accepted, answer, verdict_in, heights_in, stability_told, permitted_told}
use Rattle.judge.specs.Marked.{examined}
use Rattle.judge.specs.Demand3.{stability_of, permitted_of, verdict_at, mild, harsh, Demand3}
use Rattle.judge.proofs.Ways.{sheet_stands, job_stands, accepted_answer}

reflexive : (j : Job) → Harsher j j
reflexive j = search (mono, at_most_itself)

-- both heights of two counts, of which the second is no greater
heights_fall : {f g m n : ℕ} → g ≡ f → n ≤ m →
    (let told = W.heights g n in
    let most = W.heights f m in NoHigher (stability_told told) (stability_told most) × NoHigher (permitted_told told) (permitted_told most))
heights_fall {m = m} {n = zero} e l = (tt, tt)
heights_fall {m = zero} {n = suc H} e l = absurd (omega arith)
heights_fall {m = suc G} {n = suc H} e l = (omega arith, permitted_grows e (omega arith))

-- a height of a count has just the numbers below the count
up_to : (family n H : ℕ) → UpTo H (stability_told (W.heights family n)) ↔ (H < n)
up_to family zero H = (λ u. absurd u, λ l. absurd (omega arith))
up_to family (suc n) H = (λ u. omega arith, λ l. omega arith)

-- the pole checks of a job, in whole numbers
abbrev poles : List ℕ → Job → ℕ → Bool
poles s j = W.poles (W.column_of s j) (W.deck_load j) j.weight (W.mw j) (W.not_due j)

module _ (s : List ℕ) (j : Job) (a : Accepted s j) where
  answer_is : answer s j ≡ Ok (W.judgement s j)
  answer_is = accepted_answer s j a ∙ ap Ok (judgement_same j s)

  verdicts_are : (i : ℕ) → verdict_at s j i ≡ get_or (W.verdicts (W.column_of s j) j (W.wk j) (W.mw j) (W.force (W.load j j.height)) (W.force_wind (W.load j j.height)) (W.not_due j) (W.heights j.family (W.count s j))) i 0
  unfolding W.judgement
  verdicts_are i = ap (λ r. verdict_in r i) answer_is

  -- the same in the paper's fractions
  pub verdict_judged : (i : ℕ) → verdict_at s j i ≡ get_or (P.verdicts j s) i 0
  unfolding P.judgement
  verdict_judged i = ap (λ r. verdict_in r i) (accepted_answer s j a)

  heights_are : heights_in (answer s j) ≡ W.heights j.family (W.count s j)
  unfolding W.judgement
  heights_are = ap heights_in answer_is

no_pass_gained : (s : List ℕ) (j k : Job) → Accepted s j → Accepted s k → Harsher j k → (i : ℕ) → verdict_at s j i ≡ 2 → verdict_at s k i ≡ 2
no_pass_gained s j k a b h i =
    rw (verdicts_are s j a i, verdicts_are s k b i) (worse_at (worse s h (bounds k (job_stands s k b)) (sheet_stands s k b)) i)

-- a harsher job's pole stands at no more heights
count_less : (s : List ℕ) (j k : Job) → Accepted s k → Harsher j k → W.count s k ≤ W.count s j
count_less s j k b h = count_falls s h (bounds k (job_stands s k b)) (sheet_stands s k b)

no_height_gained : (s : List ℕ) (j k : Job) → Accepted s j → Accepted s k → Harsher j k → NoHigher (stability_of s k) (stability_of s j)
no_height_gained s j k a b h = rw (heights_are s j a, heights_are s k b) (heights_fall (sym h.family) (count_less s j k b h)).0

no_more_permitted : (s : List ℕ) (j k : Job) → Accepted s j → Accepted s k → Harsher j k → NoHigher (permitted_of s k) (permitted_of s j)
no_more_permitted s j k a b h = rw (heights_are s j a, heights_are s k b) (heights_fall (sym h.family) (count_less s j k b h)).1

height_exact : (s : List ℕ) (j : Job) → Accepted s j → (H : ℕ) → H ≤ 6000 → T (P.poles j s H) ↔ UpTo H (stability_of s j)
unfolding W.count W.height_count
height_exact s j a H l =
    let e = top_exact (poles s j) (λ m n. keep_poles s (reflexive j) (bounds j (job_stands s j a)) (sheet_stands s j a)) 6001 H (omega arith) in
    let u = up_to j.family (W.count s j) H in
    rw (poles_same j s H, heights_are s j a) (λ t. u.1 (e.0 t), λ v. e.1 (u.0 v))

accepted : Accepted sheet_T mild × Accepted sheet_T harsh
unfolding examined mild harsh
accepted = (refl, refl)

ordered : Harsher mild harsh
unfolding mild harsh ◌≼◌ fractions P.soil_factor
ordered = search (arith)

half_closed_accepted : Accepted sheet_T (half_closed_J 299) × Accepted sheet_T (half_closed_J 300)
unfolding examined half_closed_J
half_closed_accepted = (refl, refl)

half_closed_ordered : Harsher (half_closed_J 299) (half_closed_J 300)
unfolding half_closed_J
half_closed_ordered = search (at_most_itself, arith)

tie_fails : (verdict_at sheet_T (half_closed_J 299) 8 ≡ 1) × (verdict_at sheet_T (half_closed_J 300) 8 ≡ 2)
unfolding P.paper ceil ◌≼◌ up sheet_T half_closed_J
tie_fails = (verdict_judged sheet_T (half_closed_J 299) half_closed_accepted.0 8, verdict_judged sheet_T (half_closed_J 300) half_closed_accepted.1 8)

pub demand3 : Demand3
demand3 = record { no_pass_gained = no_pass_gained; no_height_gained = no_height_gained; no_more_permitted = no_more_permitted; height_exact = height_exact; reflexive = reflexive; unlike = (accepted.0, accepted.1, ordered); half_closed = (half_closed_accepted.0, half_closed_accepted.1, half_closed_ordered); tie_fails = tie_fails }
