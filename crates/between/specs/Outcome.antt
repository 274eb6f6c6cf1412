-- What two verdicts on one check, those of a mild and of a harsh job, say of it in every job between the two; a check that is not due counts as one that passes.
-- Assumes nothing.
use Rattle.std.specs.Prelude.{ℕ, List, map, get_or, cond, eqb}
use Rattle.std.specs.List.{range_with_len}
use Rattle.section5.specs.Section5.{checks}
use Rattle.between.specs.declared.Outcome.{Outcome}
use Rattle.between.specs.declared.Outcome.TheVariants.{PassesThroughout, FailsThroughout, Undecided}

-- the number that the papers give each
abbrev pub number : Outcome → ℕ
number PassesThroughout = 1
number FailsThroughout = 2
number Undecided = 3

-- the mild end fails; or it does not, and the harsh end does; or neither
abbrev pub outcome : ℕ → ℕ → Outcome
outcome mild harsh = cond (eqb mild 2) FailsThroughout (cond (eqb harsh 2) Undecided PassesThroughout)

-- of each check, from the rows of verdicts of both ends
unfoldable pub outcomes : List ℕ → List ℕ → List Outcome
outcomes mild harsh = map (λ i. outcome (get_or mild i 0) (get_or harsh i 0)) (range_with_len 0 checks)
