-- A stability height is at most 6,000 cm, the greatest that is looked for.
-- Assumes nothing.
use mathlib.Core.List.{List}
use Prim.Native.Nat.{ℕ, zero, suc, ◌≤◌}
use native.Mathlib.Omega.{arith}
use Rattle.job.specs.declared.Job.{Job}
use Rattle.section5.specs.Section5.{judgement}
use Rattle.calculation.specs.Whole as W
use Rattle.calculation.proofs.Same.{judgement_same}
use Rattle.calculation.proofs.Stability.{height_count_most}
use Rattle.between.specs.Bounded.{Low}

-- of a count of heights
counted_low : (family n : ℕ) → n ≤ 6001 → Low (W.heights family n)
counted_low family zero l = tt
counted_low family (suc H) l = omega arith

pub low : (j : Job) (sheet : List ℕ) → Low (judgement j sheet).heights
unfolding W.judgement W.count
low j sheet = rw (judgement_same j sheet) (counted_low j.family (W.count sheet j) (height_count_most _ _ _ _ _))
