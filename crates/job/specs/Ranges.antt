-- Document 01, "The job": each field with its range, in its order.
-- Assumes nothing.
use Rattle.std.specs.Prelude.{ℕ, Bool, ◌||◌, cond, List, [], ◌∷◌, ◌++◌, eqb}
use Rattle.basis.specs.Range.{within, lowest}
use Rattle.basis.specs.Refusal.{Examined}
use Rattle.basis.specs.declared.Refusal.TheVariants.{FieldRange}
use Rattle.job.specs.declared.Job.{Job}

-- 3: 105, 130 or 155 (double); 60 to 150 (single)
abbrev pub lb_stands : ℕ → ℕ → Bool
lb_stands family lb = cond (eqb family 1) (eqb lb 105 || (eqb lb 130 || eqb lb 155)) (within 60 150 lb)

-- 7: 1 to 5,000 (double), 1 to 2,400 (single)
abbrev pub height_stands : ℕ → ℕ → Bool
height_stands family height = cond (eqb family 1) (within 1 5000 height) (within 1 2400 height)

-- 18: open 1 to 2,000; half closed 1 to 700 (document 02, request 8); fully closed 1 to 1,000
abbrev pub shield_stands : ℕ → ℕ → Bool
shield_stands enclosure shield =
    cond (eqb enclosure 1) (within 1 2000 shield) (cond (eqb enclosure 2) (within 1 700 shield) (within 1 1000 shield))

-- 1 to 7
abbrev pub geometry : Job → List Bool
geometry j =
    within 1 2 j.family
    ∷ within 1 2 j.tube
    ∷ lb_stands j.family j.lb
    ∷ within 60 200 j.la
    ∷ within 60 200 j.step
    ∷ within 2 3 j.ties
    ∷ height_stands j.family j.height
    ∷ []

-- 8 to 14
abbrev pub loads : Job → List Bool
loads j =
    within 1 3 j.boards
    ∷ within 1 10 j.boarded
    ∷ within 1 9 j.working
    ∷ within 0 10000 j.q
    ∷ within 0 30000 j.total
    ∷ within 0 5000 j.nets
    ∷ within 50 500 j.weight
    ∷ []

-- 15 to 19
abbrev pub wind : Job → List Bool
wind j =
    within 0 2000 j.wind
    ∷ within 100 4000 j.exposure
    ∷ within 1 3 j.enclosure
    ∷ shield_stands j.enclosure j.shield
    ∷ within 1 2 j.wall
    ∷ []

-- 20 to 25
abbrev pub ground : Job → List Bool
ground j =
    within 0 2000 j.thickness
    ∷ within 1 3 j.make
    ∷ within 8000 100000 j.capacity
    ∷ within 1 5 j.soil
    ∷ within 10 2000 j.strength
    ∷ within 100 10000 j.pad
    ∷ []

-- whether each field stands, in their order
unfoldable pub ranges : Job → List Bool
ranges j = geometry j ++ (loads j ++ (wind j ++ ground j))

-- 3, with the lowest field outside its range
unfoldable pub outside : Job → Examined
outside j = lowest FieldRange 1 (ranges j)
