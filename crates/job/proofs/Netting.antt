-- What was answered before netting over part of the face is answered the same.
-- Assumes nothing.
use mathlib.Core.Path.{◌≡◌, ◌∙◌, refl, sym, ap}
use mathlib.Core.Bool.{true, false, ◌&&◌}
use mathlib.Core.Logic.{◌⊎◌, inl, inr, ⊎_elim}
use Prim.Native.Nat.{◌≤◌}
use native.Mathlib.Omega.{arith}
use lib.Dec.{eqb, leb}
use lib.ListN.{set}
use borrow.Author.Tests.{eqb-true, leb-true, leb-false}
use Rattle.basis.specs.Range.{lowest}
use Rattle.basis.specs.Refusal.{nothing, first}
use Rattle.basis.specs.declared.Refusal.TheVariants.{FieldRange}
use Rattle.basis.proofs.Tests.{cases, leb_same, within_le}
use Rattle.basis.proofs.Refusals.{first_nothing}
use Rattle.basis.proofs.Lowest.{lowest_passes}
use Rattle.job.specs.declared.Job.{Job}
use Rattle.job.specs.Ranges.{shield_stands, ranges, outside}
use Rattle.job.specs.Examine.{agreement_refusal, examination}
use Rattle.job.specs.Netting.{shield_stood, ranges_before, examination_before, Below30, Netting}

module _ (j : Job) where
  -- a face is such a one, or its shield stands where it stood
  one_or_same : Below30 j ⊎ (shield_stands j.enclosure j.shield ≡ shield_stood j.enclosure j.shield)
  one_or_same = cases (eqb j.enclosure 1) (λ t. inr (rw t refl)) (λ t. cases (eqb j.enclosure 2) (half t) (λ u. inr (rw (t, u) refl)))
    where
      half : eqb j.enclosure 1 ≡ false → eqb j.enclosure 2 ≡ true → Below30 j ⊎ (shield_stands j.enclosure j.shield ≡ shield_stood j.enclosure j.shield)
      half t u =
          cases (leb 300 j.shield)
          (λ w. inr (alike (λ l. leb-true 300 j.shield w)))
          (λ w. cases (leb 1 j.shield)
          (λ v. inl (record { half_closed = eqb-true j.enclosure 2 u; shielded = leb-true 1 j.shield v; below = leb-false 300 j.shield w }))
          (λ v. inr (alike (λ l. let m = leb-false 1 j.shield v in absurd (omega arith)))))
        where
          alike : (1 ≤ j.shield → 300 ≤ j.shield) → shield_stands j.enclosure j.shield ≡ shield_stood j.enclosure j.shield
          alike f = rw (t, u) (ap (λ b. b && leb j.shield 700) (leb_same f (λ l. omega arith)))

  same : shield_stands j.enclosure j.shield ≡ shield_stood j.enclosure j.shield → examination j ≡ examination_before j
  unfolding outside ranges ranges_before examination_before
  same e = ap (λ b. first (lowest FieldRange 1 (set (ranges j) 17 b)) (agreement_refusal j)) e

  not_before : Below30 j → examination_before j ≡ nothing → ⊥
  unfolding ranges ranges_before examination_before
  not_before b e =
      let passes = lowest_passes FieldRange 1 (ranges_before j) (first_nothing _ (agreement_refusal j) e).0 17 in
      let w = within_le 300 700 j.shield (rw b.half_closed at passes) in
      absurd (omega (arith, w.0, b.below))

  accepted : examination_before j ≡ nothing → examination j ≡ nothing
  accepted e = ⊎_elim (λ b. absurd (not_before b e)) (λ s. same s ∙ e) one_or_same

  newly : examination j ≡ nothing → (examination_before j ≡ nothing → ⊥) → Below30 j
  newly e h = ⊎_elim (λ b. b) (λ s. absurd (h (sym (same s) ∙ e))) one_or_same

  others : (Below30 j → ⊥) → examination j ≡ examination_before j
  others h = ⊎_elim (λ b. absurd (h b)) same one_or_same

pub netting : Netting
netting = record { accepted = accepted; newly = newly; not_before = not_before; others = others }
