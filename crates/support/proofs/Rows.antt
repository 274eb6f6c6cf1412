-- What is refused of a support is what the table says.
-- Assumes nothing.
use mathlib.Core.Path.{◌≡◌}
use mathlib.Core.Bool.{true}
use mathlib.Core.List.{◌∷◌}
use mathlib.Core.Logic.{◌⊎◌, inl, inr, ⊎_elim}
use Prim.Native.Nat.{ℕ}
use Rattle.basis.specs.Refusal.{nothing}
use Rattle.basis.specs.declared.Refusal.TheVariants.{FieldRange}
use Rattle.basis.specs.Rows.{Some, Refused, Follows}
use Rattle.basis.proofs.Lowest.{lowest_none, lowest_is, lowest_every}
use Rattle.basis.proofs.Rows.{refused_is, unrefused}
use Rattle.support.specs.declared.Support.{Support}
use Rattle.support.specs.Examine.{ranges, examination}
use Rattle.support.specs.Rows.{Inside, Outside, Row, Stands, Told}

module _ (s : Support) where
  none_is : Stands s → examination s ≡ nothing
  unfolding Inside
  none_is h = lowest_none FieldRange (ranges s) h.inside

  row_is : (n p : ℕ) → Row s n p → Refused (examination s) n p
  unfolding Inside Outside
  row_is n p (Row.outside q f) = refused_is (FieldRange q) (lowest_is FieldRange (ranges s) q f)

  every_is : Stands s ⊎ Some (Row s)
  unfolding Inside Outside
  every_is = ⊎_elim (λ i. inl (record { inside = i })) (λ f. inr (3, (f.0, Row.outside f.0 f.1))) (lowest_every (true ∷ ranges s))

  follows : Follows (examination s) (Row s) (Stands s)
  follows = record { row = row_is; none = none_is; every = every_is }

-- a support of which nothing is refused stands
pub unrefused_stands : (s : Support) → examination s ≡ nothing → Stands s
unrefused_stands s = unrefused (follows s)

pub told : Told
told = record { told = follows }
