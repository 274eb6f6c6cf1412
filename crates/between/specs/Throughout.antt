-- What is told of two ends holds of every job between them, and is told of every pair that stands in order. About what `judge_between` answers.
-- Assumes nothing.
use Rattle.std.specs.Prelude.{ℕ, ◌<◌, ◌≡◌, List, ◌↔◌, Ok}
use Rattle.job.specs.declared.Job.{Job}
use Rattle.sheet.specs.SheetT.{sheet_T}
use Rattle.section5.specs.Section5.{checks}
use Rattle.section5.specs.Harsher.{Harsher}
use Rattle.section5.specs.Poles.{NoHigher}
use Rattle.judge.specs.Answer.{Accepted}
use Rattle.judge.specs.Demand3.{verdict_at, stability_of}
use Rattle.between.specs.declared.Between.{Between}
use Rattle.between.specs.declared.Outcome.{Outcome}
use Rattle.between.specs.declared.Outcome.TheVariants.{PassesThroughout, FailsThroughout, Undecided}
use Rattle.between.specs.Between.{outcome_at, answer}

-- an accepted job that lies between the ends, by the order of demand 3 at both sides
pub record Lies (sheet : List ℕ) (m k j : Job) : Type 0 where
  pub accepted : Accepted sheet j
  pub from_mild : Harsher m j
  pub to_harsh : Harsher j k

-- b is told of the ends m and k under a sheet
pub record Holds (sheet : List ℕ) (m k : Job) (b : Between) : Type 0 where
  -- both ends are accepted, and in order
  pub mild_accepted : Accepted sheet m
  pub harsh_accepted : Accepted sheet k
  pub ordered : Harsher m k
  -- "passes throughout": the check fails for no job between
  pub passes : (i : ℕ) → i < checks → outcome_at b i ≡ PassesThroughout → (j : Job) → Lies sheet m k j → verdict_at sheet j i ≡ 2 → ⊥
  -- "fails throughout": it fails for every one
  pub fails : (i : ℕ) → i < checks → outcome_at b i ≡ FailsThroughout → (j : Job) → Lies sheet m k j → verdict_at sheet j i ≡ 2
  -- "undecided" is said exactly where the mild end does not fail and the harsh end does
  pub undecided : (i : ℕ) → i < checks → (outcome_at b i ≡ Undecided) ↔ ((verdict_at sheet m i ≡ 2 → ⊥) × (verdict_at sheet k i ≡ 2))
  -- the heights are the ends' own, and bound those between
  pub mild_height : b.mild ≡ stability_of sheet m
  pub harsh_height : b.harsh ≡ stability_of sheet k
  pub heights : (j : Job) → Lies sheet m k j → NoHigher (stability_of sheet j) b.mild × NoHigher b.harsh (stability_of sheet j)

pub record Throughout : Type 0 where
  pub holds : (sheet : List ℕ) (m k : Job) (b : Between) → answer sheet m k ≡ Ok b → Holds sheet m k b
  -- it is told of every accepted pair in order
  pub every : (sheet : List ℕ) (m k : Job) → Accepted sheet m → Accepted sheet k → Harsher m k → (b : Between) × (answer sheet m k ≡ Ok b)
  -- each of the three is said of some check of some pair
  pub occurs : (o : Outcome) → (m : Job) × ((k : Job) × ((b : Between) × ((i : ℕ) × ((i < checks) × (answer sheet_T m k ≡ Ok b) × (outcome_at b i ≡ o)))))
