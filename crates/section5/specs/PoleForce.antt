-- The pole force in the sequence of clause 5.3.2, structure, then fittings, then live: the sum after each, of a job whose structure is H cm high.
-- Assumes nothing.
use Rattle.std.specs.Prelude.{ℕ}
use Rattle.basis.specs.Fraction.{Ratio, ◌⊕◌, ◌⊗◌}
use Rattle.job.specs.declared.Job.{Job}
use Rattle.section5.specs.Decimals.{0·85, 1·2, 1·4}
use Rattle.section5.specs.Section5.{G1, G2, L}

module _ (j : Job) (H : ℕ) where
  -- structure
  unfoldable pub after_structure : Ratio
  after_structure = 1·2 ⊗ G1 j H

  -- then fittings
  unfoldable pub after_fittings : Ratio
  after_fittings = 1·2 ⊗ (G1 j H ⊕ G2 j)

  -- then live: without wind (5.3.2-1) that is `exact_N`; with wind (5.3.2-2), where 0.85 × 1.4 is the 1.19 of `exact_Nw`
  unfoldable pub after_live_wind : Ratio
  after_live_wind = 1·2 ⊗ (G1 j H ⊕ G2 j) ⊕ 0·85 ⊗ 1·4 ⊗ L j
