-- Refusal 12: the order of demand 3 tested of two jobs, field by field, and the lowest field at which it does not hold.
-- Assumes nothing.
use Rattle.std.specs.Prelude.{ℕ, zero, suc, Bool, true, List, [], ◌∷◌, ◌++◌, eqb, leb, get_or, set}
use Rattle.basis.specs.Fraction.{◌≼◌}
use Rattle.basis.specs.Range.{lowest}
use Rattle.basis.specs.Refusal.{Examined}
use Rattle.basis.specs.Rows.{First, Follows}
use Rattle.basis.specs.declared.Refusal.TheVariants.{Disorder}
use Rattle.job.specs.declared.Job.{Job}
use Rattle.job.specs.Job.{job_of, numbers}
use Rattle.section5.specs.Section5.{soil_factor}
use Rattle.section5.specs.Harsher.{Harsher}

-- 1 to 7
abbrev pub geometry : Job → Job → List Bool
geometry m k =
    eqb m.family k.family
    ∷ eqb m.tube k.tube
    ∷ leb m.lb k.lb
    ∷ leb m.la k.la
    ∷ leb m.step k.step
    ∷ leb m.ties k.ties
    ∷ leb m.height k.height
    ∷ []

-- 8 to 14
abbrev pub loads : Job → Job → List Bool
loads m k =
    eqb m.boards k.boards
    ∷ leb m.boarded k.boarded
    ∷ leb m.working k.working
    ∷ leb m.q k.q
    ∷ leb m.total k.total
    ∷ leb m.nets k.nets
    ∷ leb m.weight k.weight
    ∷ []

-- 15 to 19
abbrev pub wind : Job → Job → List Bool
wind m k =
    leb m.wind k.wind
    ∷ leb m.exposure k.exposure
    ∷ eqb m.enclosure k.enclosure
    ∷ leb m.shield k.shield
    ∷ eqb m.wall k.wall
    ∷ []

-- 20 to 25; 20 and 21 are free
abbrev pub ground : Job → Job → List Bool
ground m k =
    true
    ∷ true
    ∷ leb k.capacity m.capacity
    ∷ (soil_factor k.soil ≼ soil_factor m.soil)
    ∷ leb k.strength m.strength
    ∷ leb k.pad m.pad
    ∷ []

-- whether the order holds at each field, in their order
unfoldable pub in_order : Job → Job → List Bool
in_order m k = geometry m k ++ (loads m k ++ (wind m k ++ ground m k))

-- 12, with the lowest field at which it does not
unfoldable pub disorder : Job → Job → Examined
disorder m k = lowest Disorder 1 (in_order m k)

-- ---- and what it is to say so, from the order of demand 3 itself

-- the mild job with the harsh one's number at field p, which counts from 1
unfoldable pub with_field : ℕ → Job → Job → Job
unfolding job_of numbers
with_field zero k m = m
with_field (suc i) k m = job_of (set (numbers m) i (get_or (numbers k) i 0))

-- at field p the two are unlike, or run the wrong way
unfoldable pub Disordered : Job → Job → ℕ → Type 0
Disordered m k p = Harsher m (with_field p k m) → ⊥

-- 12, lowest field
pub data Row (m k : Job) : ℕ → ℕ → Type 0 where
  unlike : (p : ℕ) → First (Disordered m k) p → Row m k 12 p

-- what is refused of two jobs is that field, and nothing where the second is no milder than the first
pub record Told : Type 0 where
  pub told : (m k : Job) → Follows (disorder m k) (Row m k) (Harsher m k)
