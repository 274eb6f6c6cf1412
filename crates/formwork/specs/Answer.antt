-- What judging a support answers: the first refusal of 1, 2 and 3, or the judgement of clause 5.6.
-- Assumes nothing.
use Rattle.std.specs.Prelude.{ℕ, ◌≡◌, List, Result, Ok}
use Rattle.basis.specs.Refusal.{Examined, nothing, first}
use Rattle.basis.specs.declared.Refusal.{Refusal}
use Rattle.support.specs.declared.Support.{Support}
use Rattle.support.specs.Examine as Support
use Rattle.sheet.specs.Sheet as Sheet
use Rattle.section5.specs.declared.Judgement.{Judgement}
use Rattle.section5.specs.Formwork.{judgement}

-- 1 and 2 of the sheet, then 3 of the support
abbrev pub refusal : List ℕ → Support → Examined
refusal sheet s = first (Sheet.examination sheet) (Support.examination s)

-- judging refuses neither the support nor its sheet
abbrev pub Accepted : List ℕ → Support → Type 0
Accepted sheet s = refusal sheet s ≡ nothing

abbrev pub answer : List ℕ → Support → Result Judgement Refusal
answer sheet s = first (refusal sheet s) (Ok (judgement s sheet))
