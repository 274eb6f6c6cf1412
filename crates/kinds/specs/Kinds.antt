-- The number of each kind, as the papers number them, and the kind of each number.
-- Assumes nothing.
use Rattle.std.specs.Prelude.{ℕ, ◌≡◌, refl, cond, eqb, leb}
use Rattle.kinds.specs.declared.Family.{Family}
use Rattle.kinds.specs.declared.Family.TheVariants.{DoubleRow, SingleRow}
use Rattle.kinds.specs.declared.Tube.{Tube}
use Rattle.kinds.specs.declared.Tube.TheVariants.{Tube48, Tube51}
use Rattle.kinds.specs.declared.Boards.{Boards}
use Rattle.kinds.specs.declared.Boards.TheVariants.{Steel, Bamboo, Timber}
use Rattle.kinds.specs.declared.Enclosure.{Enclosure}
use Rattle.kinds.specs.declared.Enclosure.TheVariants as Enclosed
use Rattle.kinds.specs.declared.Wall.{Wall}
use Rattle.kinds.specs.declared.Wall.TheVariants as Walled
use Rattle.kinds.specs.declared.Soil.{Soil}
use Rattle.kinds.specs.declared.Soil.TheVariants.{Gravel, Sand, Fill, Clay, Rock}

-- 1 of a scaffold's numbers
abbrev pub family_number : Family → ℕ
family_number DoubleRow = 1
family_number SingleRow = 2

-- 2 of a scaffold's numbers and of a support's
abbrev pub tube_number : Tube → ℕ
tube_number Tube48 = 1
tube_number Tube51 = 2

-- 8
abbrev pub boards_number : Boards → ℕ
boards_number Steel = 1
boards_number Bamboo = 2
boards_number Timber = 3

-- 17
abbrev pub enclosure_number : Enclosure → ℕ
enclosure_number Enclosed.Open = 1
enclosure_number Enclosed.HalfClosed = 2
enclosure_number Enclosed.FullyClosed = 3

-- 19
abbrev pub wall_number : Wall → ℕ
wall_number Walled.Closed = 1
wall_number Walled.Open = 2

-- 23 of a scaffold's numbers, 11 of a support's
abbrev pub soil_number : Soil → ℕ
soil_number Gravel = 1
soil_number Sand = 2
soil_number Fill = 3
soil_number Clay = 4
soil_number Rock = 5

-- the kind of a number, as the tables of document 01 read it: of a number that none has, the last, but soil 0 the first
abbrev pub family_of : ℕ → Family
family_of n = cond (eqb n 1) DoubleRow SingleRow

abbrev pub tube_of : ℕ → Tube
tube_of n = cond (eqb n 1) Tube48 Tube51

abbrev pub boards_of : ℕ → Boards
boards_of n = cond (eqb n 1) Steel (cond (eqb n 2) Bamboo Timber)

abbrev pub enclosure_of : ℕ → Enclosure
enclosure_of n = cond (eqb n 1) Enclosed.Open (cond (eqb n 2) Enclosed.HalfClosed Enclosed.FullyClosed)

abbrev pub wall_of : ℕ → Wall
wall_of n = cond (eqb n 1) Walled.Closed Walled.Open

abbrev pub soil_of : ℕ → Soil
soil_of n = cond (leb n 1) Gravel (cond (eqb n 2) Sand (cond (eqb n 3) Fill (cond (eqb n 4) Clay Rock)))

-- each kind's number is its own
pub family_back : (k : Family) → family_of (family_number k) ≡ k
family_back DoubleRow = refl
family_back SingleRow = refl

pub tube_back : (k : Tube) → tube_of (tube_number k) ≡ k
tube_back Tube48 = refl
tube_back Tube51 = refl

pub boards_back : (k : Boards) → boards_of (boards_number k) ≡ k
boards_back Steel = refl
boards_back Bamboo = refl
boards_back Timber = refl

pub enclosure_back : (k : Enclosure) → enclosure_of (enclosure_number k) ≡ k
enclosure_back Enclosed.Open = refl
enclosure_back Enclosed.HalfClosed = refl
enclosure_back Enclosed.FullyClosed = refl

pub wall_back : (k : Wall) → wall_of (wall_number k) ≡ k
wall_back Walled.Closed = refl
wall_back Walled.Open = refl

pub soil_back : (k : Soil) → soil_of (soil_number k) ≡ k
soil_back Gravel = refl
soil_back Sand = refl
soil_back Fill = refl
soil_back Clay = refl
soil_back Rock = refl
