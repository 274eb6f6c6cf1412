-- The marked cases of document 02, request 8: field 18 at the ends of its ranges, in each enclosure.
-- Assumes nothing.
use Rattle.std.specs.Prelude.{ℕ, refl, List, [], ◌∷◌, set}
use Rattle.basis.specs.Marked.{Row, row, Hold, number_and_place}
use Rattle.job.specs.Job.{job_of}
use Rattle.job.specs.JobJ.{numbers_J}
use Rattle.job.specs.Ranges.{ranges, outside}
use Rattle.job.specs.Examine.{examination}

-- what is refused of J with this enclosure and this shield
unfoldable pub refused : ℕ → ℕ → List ℕ
unfolding job_of numbers_J ranges outside
refused enclosure shield = number_and_place (examination (job_of (set (set numbers_J 16 enclosure) 17 shield)))

unfoldable pub rows : List Row
unfolding refused
rows =
    -- half closed: 0 is refused 3 at 18, 1, 299, 300 and 700 stand, 701 is refused
    row (refused 2 0) (3 ∷ 18 ∷ [])
    ∷ row (refused 2 1) (0 ∷ 0 ∷ [])
    ∷ row (refused 2 299) (0 ∷ 0 ∷ [])
    ∷ row (refused 2 300) (0 ∷ 0 ∷ [])
    ∷ row (refused 2 700) (0 ∷ 0 ∷ [])
    ∷ row (refused 2 701) (3 ∷ 18 ∷ [])
    -- open 1 to 2,000 and fully closed 1 to 1,000, as they were
    ∷ row (refused 1 0) (3 ∷ 18 ∷ [])
    ∷ row (refused 1 1) (0 ∷ 0 ∷ [])
    ∷ row (refused 1 2000) (0 ∷ 0 ∷ [])
    ∷ row (refused 1 2001) (3 ∷ 18 ∷ [])
    ∷ row (refused 3 0) (3 ∷ 18 ∷ [])
    ∷ row (refused 3 1) (0 ∷ 0 ∷ [])
    ∷ row (refused 3 1000) (0 ∷ 0 ∷ [])
    ∷ row (refused 3 1001) (3 ∷ 18 ∷ [])
    ∷ []

pub marked : Hold rows
unfolding Hold rows refused
marked = (refl, (refl, (refl, (refl, (refl, (refl, (refl, (refl, (refl, (refl, (refl, (refl, (refl, (refl, tt))))))))))))))
