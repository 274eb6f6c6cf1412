-- What is refused of a job is what the table says: row by row, and where none applies.
-- Assumes nothing.
use mathlib.Core.Path.{◌≡◌, ◌∙◌, refl, ap}
use mathlib.Core.Bool.{Bool, ◌||◌, true}
use mathlib.Core.List.{◌∷◌}
use mathlib.Core.Logic.{◌⊎◌, inl, inr, ⊎_elim}
use Prim.Native.Nat.{ℕ, ◌≤◌, ◌<◌}
use native.Mathlib.Omega.{arith}
use lib.ListN.{set}
use lib.Dec.{eqb, leb, ltb}
use borrow.Author.Tests.{ltb-true, ltb-false, leb-true, leb-false, eqb-true, eqb-false, lt-ltb, le-ltb, le-leb, lt-leb, eq-eqb, ne_eqb}
use Rattle.basis.specs.Refusal.{nothing, unless, first}
use Rattle.basis.specs.declared.Refusal.TheVariants.{FieldRange, Contradiction, UnfitWall}
use Rattle.basis.specs.Rows.{Some, Refused, Follows}
use Rattle.basis.proofs.Tests.{cases, within_le}
use Rattle.basis.proofs.Lowest.{lowest_none, lowest_is, lowest_every, set_passes}
use Rattle.basis.proofs.Rows.{refused_is, unrefused}
use Rattle.job.specs.declared.Job.{Job}
use Rattle.job.specs.Ranges.{height_stands, ranges, outside}
use Rattle.job.specs.Job.{job_of, numbers}
use Rattle.job.specs.Examine.{wall_refusal, agreement_refusal, examination}
use Rattle.job.specs.Rows.{Inside, Outside, Agrees, Row, Stands, Told}

module _ (j : Job) where
  -- a family other than 1 is 2
  single : Inside j 1 → (j.family ≡ 1 → ⊥) → j.family ≡ 2
  unfolding Inside ranges
  single i h = let w = within_le 1 2 j.family i in omega (arith, w.0, w.1)

  -- what is left to refuse of a job whose fields are in their ranges, and of one whose fields agree
  in_range : ((p : ℕ) → Inside j p) → examination j ≡ agreement_refusal j
  unfolding Inside outside
  in_range i = ap (λ e. first e (agreement_refusal j)) (lowest_none FieldRange (ranges j) i)

  layers_agree : j.working ≤ j.boarded → agreement_refusal j ≡ unless (leb j.q j.total) (Contradiction 12) (wall_refusal j)
  layers_agree l = ap (λ b. unless b (Contradiction 10) (unless (leb j.q j.total) (Contradiction 12) (wall_refusal j))) (le-leb j.working j.boarded l)

  agree : Agrees j → examination j ≡ wall_refusal j
  agree a = in_range a.inside ∙ layers_agree a.layers ∙ ap (λ b. unless b (Contradiction 12) (wall_refusal j)) (le-leb j.q j.total a.live)

  none_is : Stands j → examination j ≡ nothing
  none_is s = agree s.agrees ∙ rw (either (λ w. lt-ltb 180 j.thickness w.0), either (λ w. eq-eqb j.make 1 w.1)) refl
    where
      -- a double row asks nothing of its wall
      either : {b : Bool} → ((180 < j.thickness) × (j.make ≡ 1) → b ≡ true) → (eqb j.family 1 || b) ≡ true
      either f = cases (eqb j.family 1) (λ t. rw t refl) (λ t. rw t (f (s.wall (single (s.agrees.inside 1) (eqb-false j.family 1 t)))))

  row_is : (n p : ℕ) → Row j n p → Refused (examination j) n p
  unfolding Inside Outside outside
  row_is n p (Row.outside q f) = refused_is (FieldRange q) (rw (lowest_is FieldRange (ranges j) q f) refl)
  row_is n p (Row.layers i l) = refused_is (Contradiction 10) (in_range i ∙ rw (lt-leb j.working j.boarded l) refl)
  row_is n p (Row.live i l m) = refused_is (Contradiction 12) (in_range i ∙ layers_agree l ∙ rw (lt-leb j.q j.total m) refl)
  row_is n p (Row.thin a f l) = refused_is (UnfitWall 20) (agree a ∙ rw (ne_eqb j.family 1 (λ z. omega arith), le-ltb 180 j.thickness l) refl)
  row_is n p (Row.weak a f l m) =
      refused_is (UnfitWall 21) (agree a ∙ rw (ne_eqb j.family 1 (λ z. omega arith), lt-ltb 180 j.thickness l, ne_eqb j.make 1 m) refl)

  -- by the facts of the table, in their order
  every_is : Stands j ⊎ Some (Row j)
  unfolding Inside Outside
  every_is = ⊎_elim inside (λ f. inr (3, (f.0, Row.outside f.0 f.1))) (lowest_every (true ∷ ranges j))
    where
      walls : Agrees j → (j.family ≡ 1 → ⊥) → Stands j ⊎ Some (Row j)
      walls a f =
          let s = single (a.inside 1) f in
          cases (ltb 180 j.thickness)
          (λ t. cases (eqb j.make 1)
          (λ m. inl (record { agrees = a; wall = λ z. (ltb-true 180 j.thickness t, eqb-true j.make 1 m) }))
          (λ m. inr (5, (21, Row.weak a s (ltb-true 180 j.thickness t) (eqb-false j.make 1 m)))))
          (λ t. inr (5, (20, Row.thin a s (ltb-false 180 j.thickness t))))

      agreeing : Agrees j → Stands j ⊎ Some (Row j)
      agreeing a =
          cases (eqb j.family 1)
          (λ t. inl (record { agrees = a; wall = λ z. let e = eqb-true j.family 1 t in absurd (omega arith) }))
          (λ t. walls a (eqb-false j.family 1 t))

      inside : ((p : ℕ) → Inside j p) → Stands j ⊎ Some (Row j)
      inside i =
          cases (leb j.working j.boarded)
          (λ t. cases (leb j.q j.total)
          (λ u. agreeing (record { inside = i; layers = leb-true j.working j.boarded t; live = leb-true j.q j.total u }))
          (λ u. inr (4, (12, Row.live i (leb-true j.working j.boarded t) (leb-false j.q j.total u)))))
          (λ t. inr (4, (10, Row.layers i (leb-false j.working j.boarded t))))

  follows : Follows (examination j) (Row j) (Stands j)
  follows = record { row = row_is; none = none_is; every = every_is }

-- a job of which nothing is refused stands
pub unrefused_stands : (j : Job) → examination j ≡ nothing → Stands j
unrefused_stands j = unrefused (follows j)

-- a job that stands does so at every height that field 7 allows
pub stands_at : (j : Job) (H : ℕ) → Stands j → Inside (job_of (set (numbers j) 6 H)) 7 → Stands (job_of (set (numbers j) 6 H))
unfolding job_of numbers Inside ranges
stands_at j H s i =
    record {
      agrees = record { inside = set_passes (true ∷ ranges j) 7 (height_stands j.family H) i s.agrees.inside; layers = s.agrees.layers; live = s.agrees.live };
      wall = s.wall;
    }

pub told : Told
told = record { told = follows }
