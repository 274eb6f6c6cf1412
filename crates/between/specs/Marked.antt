-- Two ends worked out by hand, under sheet T: in each row what the definitions compute, and what stands on paper.
-- Assumes nothing.
use Rattle.std.specs.Prelude.{ℕ, ◌-◌, List, [], ◌∷◌, set, Result, Ok, Err}
use Rattle.basis.specs.Refusal.{number, place}
use Rattle.basis.specs.declared.Refusal.{Refusal}
use Rattle.basis.specs.Marked.{Row, row, number_and_place}
use Rattle.job.specs.declared.Job.{Job}
use Rattle.job.specs.Job.{job_of}
use Rattle.job.specs.JobJ.{numbers_J, job_J, job_J_with}
use Rattle.sheet.specs.SheetT.{sheet_T}
use Rattle.between.specs.declared.Between.{Between}
use Rattle.between.specs.Between.{answer, numbers}

-- J on ground of 201 kPa, which passes check 11; J itself, on 200 kPa, fails it
unfoldable pub firm : Job
unfolding job_J_with
firm = job_J_with 24 201

-- J with 12,000 N/m² over all layers and nets of 1,564 N, which is 21,091.8 N at the ground on a pole that bears 21,091: it stands at no height
unfoldable pub laden : Job
unfolding job_of numbers_J
laden = job_of (set (set numbers_J 11 12000) 12 1564)

-- J with a number n at place p and another at place q, from 1
unfoldable pub with_two : ℕ → ℕ → ℕ → ℕ → Job
unfolding job_of numbers_J
with_two p n q o = job_of (set (set numbers_J (p - 1) n) (q - 1) o)

-- the fourteen numbers of what is told, or the number and the place of what is refused
unfoldable pub shown : Result Between Refusal → List ℕ
unfolding numbers
shown (Ok b) = numbers b
shown (Err refusal) = number refusal ∷ place refusal ∷ []

unfoldable pub refused : Job → Job → List ℕ
unfolding sheet_T
refused m k = number_and_place (answer sheet_T m k)

unfoldable pub rows : List Row
unfolding sheet_T job_J job_J_with firm laden with_two shown refused
rows =
    -- between 201 and 200 kPa check 11 waits for the report; 8 is not due and counts as a pass
    row (shown (answer sheet_T firm job_J)) (1 ∷ 1 ∷ 1 ∷ 1 ∷ 1 ∷ 1 ∷ 1 ∷ 1 ∷ 1 ∷ 1 ∷ 3 ∷ 1 ∷ 3277 ∷ 3277 ∷ [])
    -- J against itself
    ∷ row (shown (answer sheet_T job_J job_J)) (1 ∷ 1 ∷ 1 ∷ 1 ∷ 1 ∷ 1 ∷ 1 ∷ 1 ∷ 1 ∷ 1 ∷ 2 ∷ 1 ∷ 3277 ∷ 3277 ∷ [])
    -- a harsh end that stands at no height: N is 31,891.8 N up, at most 40,000
    ∷ row (shown (answer sheet_T firm laden)) (1 ∷ 1 ∷ 1 ∷ 1 ∷ 1 ∷ 1 ∷ 3 ∷ 1 ∷ 1 ∷ 1 ∷ 3 ∷ 3 ∷ 3277 ∷ 4294967295 ∷ [])
    -- a harsh end with a fault: field k is place 25 + k
    ∷ row (refused job_J (job_J_with 1 3)) (3 ∷ 26 ∷ [])
    ∷ row (refused job_J (job_J_with 25 99)) (3 ∷ 50 ∷ [])
    ∷ row (refused job_J (job_J_with 10 5)) (4 ∷ 35 ∷ [])
    ∷ row (refused job_J (job_J_with 12 2999)) (4 ∷ 37 ∷ [])
    -- the mild end first, and either before their order
    ∷ row (refused (job_J_with 25 99) (job_J_with 1 3)) (3 ∷ 25 ∷ [])
    ∷ row (refused (job_J_with 2 2) (job_J_with 25 99)) (3 ∷ 50 ∷ [])
    -- a smaller bay and firmer ground at the harsh end: the wrong way in fields 4 and 24
    ∷ row (refused job_J (with_two 4 149 24 201)) (12 ∷ 4 ∷ [])
    ∷ row (refused job_J (job_J_with 24 201)) (12 ∷ 24 ∷ [])
    -- fill and gravel are alike, clay bears more
    ∷ row (refused (job_J_with 23 1) (job_J_with 23 3)) (0 ∷ 0 ∷ [])
    ∷ row (refused (job_J_with 23 3) (job_J_with 23 1)) (0 ∷ 0 ∷ [])
    ∷ row (refused (job_J_with 23 3) job_J) (12 ∷ 23 ∷ [])
    -- wall thickness and make are free
    ∷ row (refused job_J (with_two 20 100 21 3)) (0 ∷ 0 ∷ [])
    ∷ row (refused (with_two 20 100 21 3) job_J) (0 ∷ 0 ∷ [])
    ∷ []
