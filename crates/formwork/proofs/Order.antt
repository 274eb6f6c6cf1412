-- No pass is gained by a harsher support: proved of what judging answers.
-- Assumes nothing.
use mathlib.Core.Path.{◌≡◌, refl, ap, ◌∙◌}
use mathlib.Core.List.{List}
use Prim.Native.Nat.{ℕ}
use lib.Dec.{lit≤}
use lib.ListN.{get_or}
use Rattle.std.specs.Prelude.{Ok}
use Rattle.judge.specs.Answer.{verdict_in}
use Rattle.basis.specs.Fraction.{fractions, ◌≼◌}
use Rattle.basis.proofs.Order.{mono, at_most_itself}
use Rattle.support.specs.declared.Support.{Support}
use Rattle.support.specs.SupportS.{support_S}
use Rattle.sheet.specs.SheetT.{sheet_T}
use Rattle.section5.specs.Section5.{soil_factor}
use Rattle.section5.specs.Harsher.{HarsherSupport}
use Rattle.calculation.specs.Whole.{force, force_wind}
use Rattle.calculation.proofs.Verdicts.{worse_at}
use Rattle.formwork.specs.Whole as W
use Rattle.judge.specs.Marked.{examined}
use Rattle.formwork.specs.Answer.{Accepted}
use Rattle.formwork.specs.Order.{verdict_at, harsh, Order}
use Rattle.formwork.proofs.Same.{judgement_same}
use Rattle.formwork.proofs.Keep.{worse}
use Rattle.formwork.proofs.Ways.{sheet_stands, accepted_answer}

verdicts_are : (sheet : List ℕ) (s : Support) → Accepted sheet s → (i : ℕ)
    → verdict_at sheet s i ≡ get_or (W.verdicts (W.column_of sheet s) s (W.mw s) (force (W.load s)) (force_wind (W.load s))) i 0
unfolding W.judgement
verdicts_are sheet s a i = ap (λ r. verdict_in r i) (accepted_answer sheet s a ∙ ap Ok (judgement_same s sheet))

no_pass_gained : (sheet : List ℕ) (s t : Support) → Accepted sheet s → Accepted sheet t → HarsherSupport s t → (i : ℕ) → verdict_at sheet s i ≡ 2 → verdict_at sheet t i ≡ 2
no_pass_gained sheet s t a b h i = rw (verdicts_are sheet s a i, verdicts_are sheet t b i) (worse_at (worse h sheet (sheet_stands sheet t b)) i)

reflexive : (s : Support) → HarsherSupport s s
reflexive s = search (mono, at_most_itself)

accepted : Accepted sheet_T support_S × Accepted sheet_T harsh
unfolding examined support_S harsh
accepted = (refl, refl)

ordered : HarsherSupport support_S harsh
unfolding support_S harsh ◌≼◌ fractions soil_factor
ordered =
    record {
      tube = refl;
      step = lit≤ tt;
      overhang = lit≤ tt;
      bay = lit≤ tt;
      dead = lit≤ tt;
      live = lit≤ tt;
      wind = lit≤ tt;
      exposure = lit≤ tt;
      shape = lit≤ tt;
      soil = tt;
      strength = lit≤ tt;
      pad = lit≤ tt;
    }

pub order : Order
order = record { no_pass_gained = no_pass_gained; reflexive = reflexive; unlike = (accepted.0, accepted.1, ordered) }
