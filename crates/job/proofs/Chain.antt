-- The parts of the row of fields, one after the other.
-- Assumes nothing.
use mathlib.Core.Path.{◌≡◌, ◌∙◌, ap}
use mathlib.Core.List.{◌++◌}
use Rattle.basis.specs.Range.{lowest}
use Rattle.basis.specs.Refusal.{first}
use Rattle.basis.specs.declared.Refusal.TheVariants.{FieldRange}
use Rattle.basis.proofs.Lowest.{lowest_append}
use Rattle.job.specs.declared.Job.{Job}
use Rattle.job.specs.Ranges.{geometry, loads, wind, ground, ranges, outside}

pub parts : (j : Job)
    → outside j ≡ first (lowest FieldRange 1 (geometry j)) (first (lowest FieldRange 8 (loads j)) (first (lowest FieldRange 15 (wind j)) (lowest FieldRange 20 (ground j))))
unfolding outside ranges
parts j =
    lowest_append FieldRange 1 (geometry j) (loads j ++ (wind j ++ ground j))
    ∙ ap (first (lowest FieldRange 1 (geometry j)))
    (lowest_append FieldRange 8 (loads j) (wind j ++ ground j) ∙ ap (first (lowest FieldRange 8 (loads j))) (lowest_append FieldRange 15 (wind j) (ground j)))
