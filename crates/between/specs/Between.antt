-- What is answered of a mild and a harsh job under a sheet: the first refusal, or for each check what holds of every job between them, and both stability heights.
-- Assumes nothing.
use Rattle.std.specs.List.{range_with_len}
use Rattle.std.specs.Prelude.{ℕ, ◌+◌, List, [], ◌∷◌, ◌++◌, map, get_or, Option, None, Some, Result, Ok, Err}
use Rattle.basis.specs.Refusal.{Examined, first}
use Rattle.basis.specs.declared.Refusal.{Refusal}
use Rattle.basis.specs.declared.Refusal.TheVariants.{FieldRange, Contradiction, UnfitWall}
use Rattle.job.specs.declared.Job.{Job}
use Rattle.job.specs.Examine.{examination}
use Rattle.sheet.specs.Sheet as Sheet
use Rattle.section5.specs.declared.Judgement.{Judgement}
use Rattle.section5.specs.Section5.{checks, judgement}
use Rattle.judge.specs.Answer.{stability_told}
use Rattle.between.specs.declared.Between.{Between}
use Rattle.between.specs.Order.{disorder}
use Rattle.between.specs.declared.Outcome.{Outcome}
use Rattle.between.specs.declared.Outcome.TheVariants.{Undecided}
use Rattle.between.specs.Outcome.{number, outcomes}

-- a refusal of the harsh job, whose fields count on from the mild one's 25
abbrev pub after_mild : Refusal → Refusal
after_mild (FieldRange at) = FieldRange (at + 25)
after_mild (Contradiction at) = Contradiction (at + 25)
after_mild (UnfitWall at) = UnfitWall (at + 25)
after_mild refusal = refusal

unfoldable pub of_harsh : Examined → Examined
of_harsh (Ok none) = Ok none
of_harsh (Err refusal) = Err (after_mild refusal)

-- of the judgements of both ends
abbrev pub told : Judgement → Judgement → Between
told m k = record { outcomes = outcomes m.verdicts k.verdicts; mild = stability_told m.heights; harsh = stability_told k.heights }

-- 1 and 2 of the sheet; 3, 4 and 5 of the mild job, then of the harsh job; 12 of their order; or what is told where nothing is refused
abbrev pub answer : List ℕ → Job → Job → Result Between Refusal
answer sheet m k =
    first (Sheet.examination sheet)
    (first (examination m)
    (first (of_harsh (examination k))
    (first (disorder m k)
    (Ok (told (judgement m sheet) (judgement k sheet))))))

-- the outcome of check i, from 0, of what is told
abbrev pub outcome_at : Between → ℕ → Outcome
outcome_at b i = get_or b.outcomes i Undecided

-- the papers' numbers of a height, none being the greatest of 32 bits, and of all that is told
abbrev pub height_number : Option ℕ → ℕ
height_number None = 4294967295
height_number (Some H) = H

unfoldable pub numbers : Between → List ℕ
numbers b = map (λ i. number (outcome_at b i)) (range_with_len 0 checks) ++ (height_number b.mild ∷ height_number b.harsh ∷ [])
