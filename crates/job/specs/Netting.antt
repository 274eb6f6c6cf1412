-- Document 02, request 8, netting over part of the face: what was answered before is answered the same.
-- Assumes nothing.
use Rattle.std.specs.Prelude.{ℕ, ◌≤◌, ◌<◌, ◌≡◌, Bool, cond, List, eqb, set}
use Rattle.basis.specs.Range.{within, lowest}
use Rattle.basis.specs.Refusal.{Examined, nothing, first}
use Rattle.basis.specs.declared.Refusal.TheVariants.{FieldRange}
use Rattle.job.specs.declared.Job.{Job}
use Rattle.job.specs.Ranges.{ranges}
use Rattle.job.specs.Examine.{agreement_refusal, examination}

-- 18 as it was: open 1 to 2,000; half closed 300 to 700; fully closed 1 to 1,000
abbrev pub shield_stood : ℕ → ℕ → Bool
shield_stood enclosure shield =
    cond (eqb enclosure 1) (within 1 2000 shield) (cond (eqb enclosure 2) (within 300 700 shield) (within 1 1000 shield))

-- whether each field stood, in their order: 18, which is at place 17 of the row, by that range, every other as it stands
unfoldable pub ranges_before : Job → List Bool
ranges_before j = set (ranges j) 17 (shield_stood j.enclosure j.shield)

-- 3, then 4 and 5, as they were
unfoldable pub examination_before : Job → Examined
examination_before j = first (lowest FieldRange 1 (ranges_before j)) (agreement_refusal j)

-- a half closed face shielded below 30 %, outside table 4.2.4
pub record Below30 (j : Job) : Type 0 where
  pub half_closed : j.enclosure ≡ 2
  pub shielded : 1 ≤ j.shield
  pub below : j.shield < 300

pub record Netting : Type 0 where
  -- a job that was accepted is accepted
  pub accepted : (j : Job) → examination_before j ≡ nothing → examination j ≡ nothing
  -- one that is accepted and was not has such a face, and no such face was accepted
  pub newly : (j : Job) → examination j ≡ nothing → (examination_before j ≡ nothing → ⊥) → Below30 j
  pub not_before : (j : Job) → Below30 j → examination_before j ≡ nothing → ⊥
  -- of every other job what is refused, and at which place, is what was
  pub others : (j : Job) → (Below30 j → ⊥) → examination j ≡ examination_before j
