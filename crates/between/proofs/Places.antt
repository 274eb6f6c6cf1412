-- A job's examination names one of its 25 fields.
-- Assumes nothing.
use mathlib.Core.Path.{◌≡◌}
use mathlib.Core.Bool.{true}
use mathlib.Core.List.{◌∷◌}
use mathlib.Core.Logic.{⊎_elim}
use Prim.Native.Nat.{ℕ, ◌≤◌, ◌<◌}
use native.Mathlib.Omega.{arith}
use lib.Dec.{ltb, lit≤}
use lib.ListN.{get_or-eq_default}
use borrow.Author.Tests.{ltb-true, ltb-false}
use Rattle.std.specs.Prelude.{Err}
use Rattle.basis.specs.Refusal.{place}
use Rattle.basis.specs.declared.Refusal.{Refusal}
use Rattle.basis.proofs.Tests.{cases}
use Rattle.basis.proofs.Rows.{one_refused, refused_is, not_refused}
use Rattle.job.specs.declared.Job.{Job}
use Rattle.job.specs.Ranges.{ranges}
use Rattle.job.specs.Examine.{examination}
use Rattle.job.specs.Rows.{Inside, Outside, Row}
use Rattle.job.proofs.Rows.{told}

module _ (j : Job) where
  -- there is no field after 25
  inside_after : (p : ℕ) → 25 < p → Inside j p
  unfolding Inside ranges
  inside_after p l = rw (get_or-eq_default (true ∷ ranges j) true {n = p} (omega arith)) tt

  row_most : (n p : ℕ) → Row j n p → p ≤ 25
  unfolding Outside
  row_most n p (Row.outside q f) = cases (ltb 25 q) (λ t. absurd (f.here (inside_after q (ltb-true 25 q t)))) (ltb-false 25 q)
  row_most n p (Row.layers i l) = lit≤ tt
  row_most n p (Row.live i l m) = lit≤ tt
  row_most n p (Row.thin a f l) = lit≤ tt
  row_most n p (Row.weak a f l m) = lit≤ tt

  pub place_most : (r : Refusal) → examination j ≡ Err r → place r ≤ 25
  place_most r e = ⊎_elim (λ s. absurd (not_refused (refused_is r e) ((told.told j).none s))) (λ w. rw (one_refused (refused_is r e) ((told.told j).row w.0 w.1.0 w.1.1)).1 (row_most w.0 w.1.0 w.1.1)) (told.told j).every
