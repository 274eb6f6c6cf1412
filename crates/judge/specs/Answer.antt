-- What judging answers: the first refusal of 1 to 5, or the judgement of Section5.
-- Assumes nothing.
use Rattle.std.specs.Prelude.{ℕ, ◌≡◌, List, get_or, Option, None, Some, Result, Ok, Err}
use Rattle.basis.specs.Refusal.{Examined, nothing, first}
use Rattle.basis.specs.declared.Refusal.{Refusal}
use Rattle.job.specs.declared.Job.{Job}
use Rattle.job.specs.Examine as Job
use Rattle.sheet.specs.Sheet as Sheet
use Rattle.section5.specs.declared.Heights.{Heights}
use Rattle.section5.specs.declared.Heights.TheVariants.{NoLine, Nowhere, Both}
use Rattle.section5.specs.declared.Judgement.{Judgement}
use Rattle.section5.specs.Section5.{judgement}

-- 1 and 2 of the sheet, then 3, 4 and 5 of the job
abbrev pub refusal : List ℕ → Job → Examined
refusal sheet j = first (Sheet.examination sheet) (Job.examination j)

-- judging refuses neither the job nor its sheet
abbrev pub Accepted : List ℕ → Job → Type 0
Accepted sheet j = refusal sheet j ≡ nothing

-- a refusal, or the judgement where nothing is refused
abbrev pub answer : List ℕ → Job → Result Judgement Refusal
answer sheet j = first (refusal sheet j) (Ok (judgement j sheet))

-- of what judging answers: verdict i, from 0, and the heights; after a refusal there are none
abbrev pub verdict_in : Result Judgement Refusal → ℕ → ℕ
verdict_in (Ok g) i = get_or g.verdicts i 0
verdict_in (Err r) i = 0

abbrev pub heights_in : Result Judgement Refusal → Heights
heights_in (Ok g) = g.heights
heights_in (Err r) = NoLine

-- of what is told of heights: the stability height, and the permitted height
abbrev pub stability_told : Heights → Option ℕ
stability_told NoLine = None
stability_told Nowhere = None
stability_told (Both H permitted) = Some H

abbrev pub permitted_told : Heights → Option ℕ
permitted_told NoLine = None
permitted_told Nowhere = None
permitted_told (Both H permitted) = Some permitted
