-- The parts of the row of tests, one after the other, and the test of two soils.
-- Assumes nothing.
use mathlib.Core.Path.{◌≡◌, ◌∙◌, ap}
use mathlib.Core.List.{◌++◌}
use Prim.Native.Nat.{ℕ}
use lib.Dec.{leb}
use Rattle.basis.specs.Fraction.{◌≼◌, fractions}
use Rattle.basis.specs.Range.{lowest}
use Rattle.basis.specs.Refusal.{first}
use Rattle.basis.specs.declared.Refusal.TheVariants.{Disorder}
use Rattle.basis.proofs.Lowest.{lowest_append}
use Rattle.basis.proofs.Tests.{same, tests}
use Rattle.kinds.specs.Kinds.{soil_number, soil_of}
use Rattle.kinds.proofs.Read.{soil_below, soil_fourth}
use Rattle.job.specs.declared.Job.{Job}
use Rattle.section5.specs.Section5 as P
use Rattle.calculation.specs.Whole as W
use Rattle.between.specs.Order.{geometry, loads, wind, ground, in_order, disorder}

pub parts : (m k : Job)
    → disorder m k ≡ first (lowest Disorder 1 (geometry m k)) (first (lowest Disorder 8 (loads m k)) (first (lowest Disorder 15 (wind m k)) (lowest Disorder 20 (ground m k))))
unfolding disorder in_order
parts m k =
    lowest_append Disorder 1 (geometry m k) (loads m k ++ (wind m k ++ ground m k))
    ∙ ap (first (lowest Disorder 1 (geometry m k)))
    (lowest_append Disorder 8 (loads m k) (wind m k ++ ground m k) ∙ ap (first (lowest Disorder 8 (loads m k))) (lowest_append Disorder 15 (wind m k) (ground m k)))

-- soil factors as they are read and in whole tenths
pub soils : (m k : ℕ) → leb (W.soil_factor (soil_number (soil_of k))) (W.soil_factor (soil_number (soil_of m))) ≡ (P.soil_factor k ≼ P.soil_factor m)
unfolding ◌≼◌ fractions P.soil_factor
soils m k = rw (soil_below k, soil_fourth k, soil_below m, soil_fourth m) (same _ _ (omega tests))
