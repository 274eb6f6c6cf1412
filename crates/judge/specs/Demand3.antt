-- Demand 3, about what judging answers: no failed check recovers, neither height is gained, and the stability height is exact.
-- Assumes nothing.
use Rattle.std.specs.Prelude.{◌≡◌, List, [], ◌∷◌, ◌↔◌, ℕ, ◌≤◌, T, Option}
use Rattle.job.specs.declared.Job.{Job}
use Rattle.job.specs.Job.{job_of}
use Rattle.job.specs.JobJ.{half_closed_J}
use Rattle.sheet.specs.SheetT.{sheet_T}
use Rattle.section5.specs.Section5.{poles}
use Rattle.section5.specs.Poles.{NoHigher, UpTo}
use Rattle.judge.specs.Answer.{Accepted, answer, verdict_in, heights_in, stability_told, permitted_told}
use Rattle.section5.specs.Harsher.{Harsher}

-- verdict i, from 0, of what judging answers, and its two heights
abbrev pub verdict_at : List ℕ → Job → ℕ → ℕ
verdict_at sheet j i = verdict_in (answer sheet j) i

abbrev pub stability_of : List ℕ → Job → Option ℕ
stability_of sheet j = stability_told (heights_in (answer sheet j))

abbrev pub permitted_of : List ℕ → Job → Option ℕ
permitted_of sheet j = permitted_told (heights_in (answer sheet j))

-- two jobs that differ in every field that the order does not hold equal
unfoldable pub mild : Job
unfolding job_of
mild = job_of (1 ∷ 1 ∷ 105 ∷ 150 ∷ 180 ∷ 2 ∷ 3000 ∷ 3 ∷ 4 ∷ 2 ∷ 3000 ∷ 5000 ∷ 0 ∷ 300 ∷ 300 ∷ 1000 ∷ 1 ∷ 200 ∷ 1 ∷ 240 ∷ 1 ∷ 9000 ∷ 5 ∷ 200 ∷ 2000 ∷ [])

unfoldable pub harsh : Job
unfolding job_of
harsh = job_of (1 ∷ 1 ∷ 130 ∷ 160 ∷ 190 ∷ 3 ∷ 3100 ∷ 3 ∷ 5 ∷ 3 ∷ 3100 ∷ 5100 ∷ 10 ∷ 310 ∷ 310 ∷ 1100 ∷ 1 ∷ 210 ∷ 1 ∷ 120 ∷ 2 ∷ 8000 ∷ 4 ∷ 190 ∷ 1900 ∷ [])

pub record Demand3 : Type 0 where
  -- every check that fails for the first job fails for the second, the twelfth among them
  pub no_pass_gained : (sheet : List ℕ) (j k : Job) → Accepted sheet j → Accepted sheet k → Harsher j k → (i : ℕ) → verdict_at sheet j i ≡ 2 → verdict_at sheet k i ≡ 2
  -- the second's stability height is no greater than the first's
  pub no_height_gained : (sheet : List ℕ) (j k : Job) → Accepted sheet j → Accepted sheet k → Harsher j k → NoHigher (stability_of sheet k) (stability_of sheet j)
  -- nor is its permitted height
  pub no_more_permitted : (sheet : List ℕ) (j k : Job) → Accepted sheet j → Accepted sheet k → Harsher j k → NoHigher (permitted_of sheet k) (permitted_of sheet j)
  -- of all heights from 0 to 6,000 cm, the pole checks pass exactly at those up to the stability height
  pub height_exact : (sheet : List ℕ) (j : Job) → Accepted sheet j → (H : ℕ) → H ≤ 6000 → T (poles j sheet H) ↔ UpTo H (stability_of sheet j)
  -- jobs can stand in this order: each with itself, and unlike ones that are both accepted
  pub reflexive : (j : Job) → Harsher j j
  pub unlike : Accepted sheet_T mild × Accepted sheet_T harsh × Harsher mild harsh
  -- half closed, on both sides of 30 %: of these the ties bear what blows on 29.9 % of the face, and fail at 30 %
  pub half_closed : Accepted sheet_T (half_closed_J 299) × Accepted sheet_T (half_closed_J 300) × Harsher (half_closed_J 299) (half_closed_J 300)
  pub tie_fails : (verdict_at sheet_T (half_closed_J 299) 8 ≡ 1) × (verdict_at sheet_T (half_closed_J 300) 8 ≡ 2)
