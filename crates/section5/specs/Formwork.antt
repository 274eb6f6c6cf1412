-- Clause 5.6, formwork supports, as request 2 of document 02 restates it, in its order and its symbols: lengths in metres, forces in N. Tube, wind, stability factor, soil and the checks of a force are those of Section5.
-- Assumes nothing.
use Rattle.std.specs.Prelude.{ℕ, Bool, List, [], ◌∷◌}
use Rattle.basis.specs.Fraction.{Ratio, whole, hundredths, thousandths, ◌⊕◌, ◌⊗◌, ◌⊘◌, up}
use Rattle.support.specs.declared.Support.{Support}
use Rattle.section5.specs.Decimals.{1·19, 1·2, 1·4}
use Rattle.section5.specs.Section5.{mm, verdict, tube_area, tube_modulus, tube_radius, wind_pressure, wind_moment, rounded, stability_factor, bears, bends, base_bears, ground_bears}
use Rattle.section5.specs.declared.Heights.TheVariants.{NoLine}
use Rattle.section5.specs.declared.Judgement.{Judgement}

module _ (s : Support) where
  -- ---- The support

  -- step, overhang and bay, m
  unfoldable pub h : Ratio
  h = hundredths s.step

  unfoldable pub a : Ratio
  a = hundredths s.overhang

  unfoldable pub bay : Ratio
  bay = hundredths s.bay

  -- dead and live load on the pole, ΣNGK and ΣNQK
  unfoldable pub dead : Ratio
  dead = whole s.dead

  unfoldable pub live : Ratio
  live = whole s.live

  -- basic wind, N/m²; height factor and shape factor
  unfoldable pub w0 : Ratio
  w0 = whole s.wind

  unfoldable pub exposure : Ratio
  exposure = thousandths s.exposure

  unfoldable pub shape : Ratio
  shape = thousandths s.shape

  -- the tube's
  unfoldable pub A : Ratio
  A = tube_area s.tube

  unfoldable pub W : Ratio
  W = tube_modulus s.tube

  unfoldable pub i : Ratio
  i = tube_radius s.tube

  -- ---- Figures

  -- the force without wind (5.6.2-1) and with it (5.6.2-2), where 1.19 is 0.85 × 1.4; up to a whole newton only when complete
  unfoldable pub exact_N : Ratio
  exact_N = 1·2 ⊗ dead ⊕ 1·4 ⊗ live

  unfoldable pub exact_Nw : Ratio
  exact_Nw = 1·2 ⊗ dead ⊕ 1·19 ⊗ live

  unfoldable pub N : ℕ
  N = up exact_N

  unfoldable pub Nw : ℕ
  Nw = up exact_Nw

  -- the effective length (5.6.2-3)
  unfoldable pub l0 : Ratio
  l0 = h ⊕ whole 2 ⊗ a

  -- column slenderness; unrounded, and as the sheet is read at it
  unfoldable pub exact_Z : Ratio
  exact_Z = mm l0 ⊘ i

  unfoldable pub Z : Ratio
  Z = rounded exact_Z

  -- stability factor
  unfoldable pub φ : List ℕ → Ratio
  φ sheet = stability_factor sheet Z

  -- wind, up to a whole N/m², and its moment over the step alone
  unfoldable pub wk : ℕ
  wk = wind_pressure exposure shape w0

  unfoldable pub Mw : ℕ
  Mw = wind_moment wk bay h

  -- ---- Checks

  -- 7 N, at most φ A f
  unfoldable pub check7 : List ℕ → Bool
  check7 sheet = bears (φ sheet) A N

  -- 8 Nw/(φ A) + Mw/W, at most f; always due
  unfoldable pub check8 : List ℕ → Bool
  check8 sheet = bends (φ sheet) A W Nw Mw

  -- 10 N, at most 40,000
  unfoldable pub check10 : Bool
  check10 = base_bears N

  -- 11 N, at most soil factor × strength × pad
  unfoldable pub check11 : Bool
  check11 = ground_bears s.soil s.strength s.pad N

  -- the row of twelve: 0 where a check does not apply, 1 passes, 2 fails
  unfoldable pub verdicts : List ℕ → List ℕ
  verdicts sheet = 0 ∷ 0 ∷ 0 ∷ 0 ∷ 0 ∷ 0 ∷ verdict (check7 sheet) ∷ verdict (check8 sheet) ∷ 0 ∷ verdict check10 ∷ verdict check11 ∷ 0 ∷ []

  unfoldable pub figures : List ℕ
  figures = 0 ∷ 0 ∷ 0 ∷ 0 ∷ 0 ∷ 0 ∷ N ∷ Nw ∷ 0 ∷ N ∷ N ∷ 0 ∷ []

  -- ---- what a report tells

  -- Z in tenths, a whole number of them
  unfoldable pub column : ℕ
  column = up (whole 10 ⊗ Z)

  -- no height line
  unfoldable pub judgement : List ℕ → Judgement
  judgement sheet =
      record {
        verdicts = verdicts sheet;
        figures = figures;
        heights = NoLine;
        wk = wk;
        mw = Mw;
        z = column;
      }

-- on an `unfolding` line: all of the above
unfoldable pub clause : Unit {0}
unfolding h a bay dead live w0 exposure shape A W i exact_N exact_Nw N Nw l0 exact_Z Z φ wk Mw check7 check8 check10 check11 verdicts figures column judgement
clause = tt
