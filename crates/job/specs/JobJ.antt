-- Job J of document 01, and J half closed.
-- Assumes nothing.
use Rattle.std.specs.Prelude.{ℕ, ◌-◌, List, [], ◌∷◌, set}
use Rattle.job.specs.declared.Job.{Job}
use Rattle.job.specs.Job.{job_of}

unfoldable pub numbers_J : List ℕ
numbers_J = 1 ∷ 1 ∷ 105 ∷ 150 ∷ 180 ∷ 2 ∷ 3000 ∷ 3 ∷ 4 ∷ 2 ∷ 3000 ∷ 5000 ∷ 0 ∷ 300 ∷ 300 ∷ 1000 ∷ 1 ∷ 200 ∷ 1 ∷ 240 ∷ 1 ∷ 8000 ∷ 4 ∷ 200 ∷ 2000 ∷ []

unfoldable pub job_J : Job
unfolding job_of numbers_J
job_J = job_of numbers_J

-- the same with its number at place k, from 1, set to n
unfoldable pub job_J_with : ℕ → ℕ → Job
unfolding job_of numbers_J
job_J_with k n = job_of (set numbers_J (k - 1) n)

-- J half closed, so many thousandths of its face shielded: 2,800 cm high in a wind of 500 N/m² with height factor 1.2, its ties bearing 8,430 N
unfoldable pub half_closed_J : ℕ → Job
unfolding job_of numbers_J
half_closed_J shield = job_of (set (set (set (set (set (set numbers_J 6 2800) 14 500) 15 1200) 16 2) 17 shield) 21 8430)
