-- The pole checks at a height are verdicts 7 and 8 of the job with that height, proved.
-- Assumes nothing.
use mathlib.Core.Path.{◌≡◌, refl}
use mathlib.Core.Bool.{Bool, true, false, ◌&&◌, ◌||◌, cond}
use mathlib.Core.Logic.{◌↔◌}
use native.Mathlib.Omega.{arith}
use lib.Dec.{T}
use Rattle.job.specs.Job.{job_of, numbers}
use Rattle.section5.specs.Section5.{verdict, check7, check8, not_due, paper}
use Rattle.section5.specs.Poles.{with_height, PolesAreVerdicts}

-- 7 passes, and 8 passes or isn't due
neither_fails : (a d b : Bool) → T (a && (d || b)) ↔ ((verdict a ≡ 2 → ⊥) × (cond d 0 (verdict b) ≡ 2 → ⊥))
neither_fails true true b = (λ t. (λ e. omega arith, λ e. omega arith), λ h. tt)
neither_fails true false true = (λ t. (λ e. omega arith, λ e. omega arith), λ h. tt)
neither_fails true false false = (λ t. absurd t, λ h. h.1 refl)
neither_fails false d b = (λ t. absurd t, λ h. h.0 refl)

-- no other field has changed, so the checks are the job's own
pub poles_are_verdicts : PolesAreVerdicts
unfolding with_height job_of numbers paper
poles_are_verdicts = record { pass = λ j sheet H. neither_fails (check7 j sheet H) (not_due j) (check8 j sheet H) }
