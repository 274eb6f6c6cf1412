-- Refusals 3, 4 and 5: a field outside its range, two fields that contradict each other, a wall unfit for a single row.
-- Assumes nothing.
use Rattle.std.specs.Prelude.{◌||◌, leb, ltb, eqb}
use Rattle.basis.specs.Refusal.{Examined, unless, first, nothing}
use Rattle.basis.specs.declared.Refusal.TheVariants.{Contradiction, UnfitWall}
use Rattle.job.specs.declared.Job.{Job}
use Rattle.job.specs.Ranges.{outside}

-- 5, 20 or else 21
abbrev pub wall_refusal : Job → Examined
wall_refusal j =
    unless (eqb j.family 1 || ltb 180 j.thickness) (UnfitWall 20)
    (unless (eqb j.family 1 || eqb j.make 1) (UnfitWall 21)
    nothing)

-- 4, 10 or else 12; then 5
abbrev pub agreement_refusal : Job → Examined
agreement_refusal j =
    unless (leb j.working j.boarded) (Contradiction 10)
    (unless (leb j.q j.total) (Contradiction 12)
    (wall_refusal j))

-- 3, then 4 and 5
abbrev pub examination : Job → Examined
examination j = first (outside j) (agreement_refusal j)
