-- Document 02, request 2: each field of a support with its range, in its order; and refusal 3.
-- Assumes nothing.
use Rattle.std.specs.Prelude.{Bool, List, [], ◌∷◌}
use Rattle.basis.specs.Range.{within, lowest}
use Rattle.basis.specs.Refusal.{Examined}
use Rattle.basis.specs.declared.Refusal.TheVariants.{FieldRange}
use Rattle.support.specs.declared.Support.{Support}

-- whether each field stands; the first is 3, and the ranges are otherwise those of document 01
abbrev pub ranges : Support → List Bool
ranges s =
    within 3 3 s.kind
    ∷ within 1 2 s.tube
    ∷ within 60 200 s.step
    ∷ within 0 100 s.overhang
    ∷ within 60 200 s.bay
    ∷ within 0 60000 s.dead
    ∷ within 0 60000 s.live
    ∷ within 0 2000 s.wind
    ∷ within 100 4000 s.exposure
    ∷ within 0 2000 s.shape
    ∷ within 1 5 s.soil
    ∷ within 10 2000 s.strength
    ∷ within 100 10000 s.pad
    ∷ []

-- 3, the lowest field outside its range; 4 and 5 do not occur
abbrev pub examination : Support → Examined
examination s = lowest FieldRange 1 (ranges s)
