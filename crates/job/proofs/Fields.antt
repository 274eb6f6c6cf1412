-- A job that stands is read as itself, each of its kinds being some kind's number.
-- Assumes nothing.
use mathlib.Core.Path.{◌≡◌, refl}
use Prim.Native.Nat.{◌≤◌}
use Rattle.basis.specs.Refusal.{nothing}
use Rattle.basis.proofs.Tests.{within_le}
use Rattle.kinds.proofs.Read.{family_own, tube_own, boards_own, enclosure_own, wall_own, soil_own}
use Rattle.job.specs.declared.Job.{Job}
use Rattle.job.specs.Ranges.{ranges}
use Rattle.job.specs.Rows.{Inside, Stands}
use Rattle.job.specs.Examine.{examination}
use Rattle.job.specs.Bounds.{Bounds}
use Rattle.job.proofs.Bounds.{bounds}
use Rattle.job.proofs.Rows.{unrefused_stands}
use Rattle.job.specs.Read.{as_read}

module _ {j : Job} (h : Stands j) where
  family_is : (1 ≤ j.family) × (j.family ≤ 2)
  unfolding Inside ranges
  family_is = within_le 1 2 j.family (h.agrees.inside 1)

  tube_is : (1 ≤ j.tube) × (j.tube ≤ 2)
  unfolding Inside ranges
  tube_is = within_le 1 2 j.tube (h.agrees.inside 2)

  boards_is : (1 ≤ j.boards) × (j.boards ≤ 3)
  unfolding Inside ranges
  boards_is = within_le 1 3 j.boards (h.agrees.inside 8)

  enclosure_is : (1 ≤ j.enclosure) × (j.enclosure ≤ 3)
  unfolding Inside ranges
  enclosure_is = within_le 1 3 j.enclosure (h.agrees.inside 17)

  wall_is : (1 ≤ j.wall) × (j.wall ≤ 2)
  unfolding Inside ranges
  wall_is = within_le 1 2 j.wall (h.agrees.inside 19)

  soil_is : (1 ≤ j.soil) × (j.soil ≤ 5)
  unfolding Inside ranges
  soil_is = within_le 1 5 j.soil (h.agrees.inside 23)

  pub read_own : as_read j ≡ j
  read_own =
      rw (family_own j.family family_is.0 family_is.1, tube_own j.tube tube_is.0 tube_is.1, boards_own j.boards boards_is.0 boards_is.1, enclosure_own j.enclosure enclosure_is.0 enclosure_is.1, wall_own j.wall wall_is.0 wall_is.1, soil_own j.soil soil_is.0 soil_is.1)
      refl

-- of a job of which examining refuses nothing
module _ (j : Job) (e : examination j ≡ nothing) where
  pub passed_bounds : Bounds j
  passed_bounds = bounds j (unrefused_stands j e)

  pub passed_own : as_read j ≡ j
  passed_own = read_own (unrefused_stands j e)
