-- A support that stands is read as itself, its first number being 3 and each of its kinds some kind's number.
-- Assumes nothing.
use mathlib.Core.Path.{◌≡◌, refl}
use Prim.Native.Nat.{◌≤◌}
use Rattle.basis.specs.Refusal.{nothing}
use Rattle.basis.proofs.Tests.{within_le}
use Rattle.kinds.proofs.Read.{tube_own, soil_own}
use Rattle.support.specs.declared.Support.{Support}
use Rattle.support.specs.Examine.{examination}
use Rattle.support.specs.Bounds.{Bounds}
use Rattle.support.specs.Rows.{Inside, Stands}
use Rattle.support.specs.Read.{as_read}
use Rattle.support.proofs.Bounds.{bounds}
use Rattle.support.proofs.Rows.{unrefused_stands}

module _ {s : Support} (h : Stands s) where
  kind_is : s.kind ≡ 3
  kind_is = (bounds s h).kind

  tube_is : (1 ≤ s.tube) × (s.tube ≤ 2)
  unfolding Inside
  tube_is = within_le 1 2 s.tube (h.inside 2)

  soil_is : (1 ≤ s.soil) × (s.soil ≤ 5)
  unfolding Inside
  soil_is = within_le 1 5 s.soil (h.inside 11)

  pub read_own : as_read s ≡ s
  read_own = rw (kind_is, tube_own s.tube tube_is.0 tube_is.1, soil_own s.soil soil_is.0 soil_is.1) refl

-- of a support of which examining refuses nothing
module _ (s : Support) (e : examination s ≡ nothing) where
  pub passed_bounds : Bounds s
  passed_bounds = bounds s (unrefused_stands s e)

  pub passed_own : as_read s ≡ s
  passed_own = read_own (unrefused_stands s e)
