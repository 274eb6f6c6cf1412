-- What a job's kinds are read as does not matter: figures, checks and heights of the job as it is read are those of the job, whatever its numbers are, and each table of a kind's number is the same.
-- Assumes nothing.
use Rattle.std.specs.Prelude.{ℕ, Bool, List, ◌≡◌}
use Rattle.kinds.specs.Kinds.{family_number, tube_number, enclosure_number, wall_number, soil_number, family_of, tube_of, enclosure_of, wall_of, soil_of}
use Rattle.job.specs.declared.Job.{Job}
use Rattle.job.specs.Read.{as_read}
use Rattle.section5.specs.declared.Heights.{Heights}
use Rattle.calculation.specs.Parts.{Column}
use Rattle.calculation.specs.Whole as W

-- of a job
pub record SameJob (j : Job) : Type 0 where
  pub not_due : W.not_due (as_read j) ≡ W.not_due j
  pub deck_load : W.deck_load (as_read j) ≡ W.deck_load j
  pub effects : W.effects (as_read j) ≡ W.effects j
  pub slenderness : W.column_slenderness (as_read j) ≡ W.column_slenderness j
  pub verdicts : (c : Column) (wk mw n nw : ℕ) (exempt : Bool) (h : Heights) → W.verdicts c (as_read j) wk mw n nw exempt h ≡ W.verdicts c j wk mw n nw exempt h
  pub figures : (wk n nw : ℕ) (h : Heights) → W.figures (as_read j) wk n nw h ≡ W.figures j wk n nw h

-- of a number of a kind
pub record SameNumber (n : ℕ) : Type 0 where
  pub radius : W.radius (tube_number (tube_of n)) ≡ W.radius n
  pub column : (s : List ℕ) (z : ℕ) → W.column_at s (tube_number (tube_of n)) z ≡ W.column_at s n z
  pub shape : (wall shield : ℕ) → W.shape (enclosure_number (enclosure_of n)) (wall_number (wall_of wall)) shield ≡ W.shape n wall shield
  pub ground : (strength pad force : ℕ) → W.ground_bears (soil_number (soil_of n)) strength pad force ≡ W.ground_bears n strength pad force
  pub heights : (count : ℕ) → W.heights (family_number (family_of n)) count ≡ W.heights n count

pub record AsRead : Type 0 where
  pub same_job : (j : Job) → SameJob j
  pub same_number : (n : ℕ) → SameNumber n
