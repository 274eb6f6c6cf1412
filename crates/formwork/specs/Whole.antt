-- The whole-number forms that the code works out of a support, each proved equal to that of clause 5.6 in proofs/Same.antt. Lengths are in cm.
-- Assumes nothing.
use Rattle.std.specs.Prelude.{ℕ, ◌+◌, ◌*◌, List, [], ◌∷◌}
use Rattle.basis.specs.Fraction.{ceil}
use Rattle.support.specs.declared.Support.{Support}
use Rattle.section5.specs.Section5.{verdict}
use Rattle.section5.specs.declared.Heights.TheVariants.{NoLine}
use Rattle.section5.specs.declared.Judgement.{Judgement}
use Rattle.calculation.specs.Parts.{Load, Column}
use Rattle.calculation.specs.Whole.{radius, wind_pressure, wind_moment, force, force_wind, rounded_tenths, column_at, bears, bends, base_bears, ground_bears}

-- what the pole carries, in 1/20,000 N
abbrev pub load : Support → Load
load s = record { dead = 20000 * s.dead; live = 20000 * s.live }

-- N/m², up; the shape factor in 1/100,000
unfoldable pub wk : Support → ℕ
wk s = wind_pressure s.exposure (100 * s.shape) s.wind

-- N·mm, up
unfoldable pub mw : Support → ℕ
mw s = wind_moment (wk s) s.bay s.step

-- (h + 2a) / i up to a tenth, in tenths
unfoldable pub column_tenths : Support → ℕ
column_tenths s = ceil (1000 * (s.step + 2 * s.overhang)) (radius s.tube)

-- Z, in tenths
unfoldable pub column_slenderness : Support → ℕ
column_slenderness s = rounded_tenths (column_tenths s)

unfoldable pub column_of : List ℕ → Support → Column
column_of sheet s = column_at sheet s.tube (column_slenderness s)

-- the row of twelve, of the column, Mw, N and Nw
unfoldable pub verdicts : Column → Support → ℕ → ℕ → ℕ → List ℕ
verdicts c s mw n nw =
    0 ∷ 0 ∷ 0 ∷ 0 ∷ 0 ∷ 0
    ∷ verdict (bears c n)
    ∷ verdict (bends c nw mw)
    ∷ 0
    ∷ verdict (base_bears n)
    ∷ verdict (ground_bears s.soil s.strength s.pad n)
    ∷ 0
    ∷ []

-- of N and Nw
unfoldable pub figures : ℕ → ℕ → List ℕ
figures n nw = 0 ∷ 0 ∷ 0 ∷ 0 ∷ 0 ∷ 0 ∷ n ∷ nw ∷ 0 ∷ n ∷ n ∷ 0 ∷ []

unfoldable pub judgement : List ℕ → Support → Judgement
judgement sheet s =
    record {
      verdicts = verdicts (column_of sheet s) s (mw s) (force (load s)) (force_wind (load s));
      figures = figures (force (load s)) (force_wind (load s));
      heights = NoLine;
      wk = wk s;
      mw = mw s;
      z = column_slenderness s;
    }
