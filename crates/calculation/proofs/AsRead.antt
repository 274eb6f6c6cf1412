-- Figures, checks and heights are those of the job, whatever its kinds are read as: each table asks of a kind's number only what reading it keeps.
-- Assumes nothing.
use mathlib.Core.Path.{◌≡◌, refl}
use Prim.Native.Nat.{ℕ, zero, suc}
use Rattle.kinds.specs.Kinds.{family_number, family_of}
use Rattle.kinds.proofs.Read.{family_first, tube_first, boards_first, enclosure_first, wall_first, soil_below, soil_fourth}
use Rattle.job.specs.declared.Job.{Job}
use Rattle.calculation.specs.AsRead.{AsRead, SameJob, SameNumber}
use Rattle.section5.specs.Section5.{length_factor}
use Rattle.calculation.specs.Whole as W

same_job : (j : Job) → SameJob j
unfolding length_factor W.wind_pressure W.wk W.mw W.fittings W.deck_live W.load W.force W.force_wind W.column_tenths W.column_slenderness W.slenderness W.transom_moment W.transom_load W.transom_deflection W.ledger_moment W.ledger_load W.ledger_deflection W.slip W.tie_force W.verdicts W.effects
same_job j =
    record {
      not_due = rw (enclosure_first j.enclosure) refl;
      deck_load = rw (family_first j.family, boards_first j.boards) refl;
      effects = rw (family_first j.family, boards_first j.boards, enclosure_first j.enclosure, wall_first j.wall) refl;
      slenderness = rw (family_first j.family, tube_first j.tube) refl;
      verdicts = λ c wk mw n nw exempt h. rw (family_first j.family, tube_first j.tube, boards_first j.boards, soil_below j.soil, soil_fourth j.soil) refl;
      figures = λ wk n nw h. rw (family_first j.family, tube_first j.tube, boards_first j.boards) refl;
    }

heights_read : (n count : ℕ) → W.heights (family_number (family_of n)) count ≡ W.heights n count
heights_read n zero = refl
heights_read n (suc H) = rw (family_first n) refl

same_number : (n : ℕ) → SameNumber n
same_number n =
    record {
      radius = rw (tube_first n) refl;
      column = λ s z. rw (tube_first n) refl;
      shape = λ wall shield. rw (enclosure_first n, wall_first wall) refl;
      ground = λ strength pad force. rw (soil_below n, soil_fourth n) refl;
      heights = heights_read n;
    }

pub as_read_same : AsRead
as_read_same = record { same_job = same_job; same_number = same_number }
