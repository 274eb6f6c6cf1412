-- Document 01, from "Constants" to "Heights", in its order and its symbols, with what document 02 changes of it: lengths in metres, forces in N, loads in N/m² and N/m.
-- Assumes nothing.
use Rattle.std.specs.Prelude.{ℕ, zero, suc, min, Bool, true, false, ◌&&◌, ◌||◌, cond, List, [], ◌∷◌, get_or, leb, ltb, eqb, Option, None, Some}
use Rattle.basis.specs.Fraction.{Ratio, whole, tenths, hundredths, thousandths, ◌⊕◌, ◌⊖◌, ◌⊗◌, ◌⊘◌, ◌÷◌, ◌², ◌³, ◌⁴, ◌≼◌, up, down, fractions}
use Rattle.job.specs.declared.Job.{Job}
use Rattle.section5.specs.Decimals.{0·001, 0·175, 0·213, 0·30, 0·7, 1·0, 1·146, 1·155, 1·19, 1·2, 1·3, 1·4, 1·615, 2·15, 2·30}
use Rattle.section5.specs.declared.Heights.{Heights}
use Rattle.section5.specs.declared.Heights.TheVariants.{Nowhere, Both}
use Rattle.section5.specs.declared.Judgement.{Judgement}

-- how many checks there are
abbrev pub checks : ℕ
checks = 12

-- metres to millimetres; N·m to N·mm
unfoldable pub mm : Ratio → Ratio
mm x = whole 1000 ⊗ x

-- a verdict: 1 passes, 2 fails
abbrev pub verdict : Bool → ℕ
verdict true = 1
verdict false = 2

-- the greatest H from 0 to n at which the test passes; none if not even 0 does
unfoldable pub greatest : (ℕ → Bool) → ℕ → Option ℕ
greatest p zero = elim (p zero) [ true ↦ Some zero | false ↦ None ]
greatest p (suc n) = elim (p (suc n)) [ true ↦ Some (suc n) | false ↦ greatest p n ]

-- ---- Constants

-- tube 1: area A 489 mm², modulus W 5,080 mm³, radius i 15.8 mm, inertia I 121,900 mm⁴; tube 2: 452, 5,130, 17.0, 130,800
unfoldable pub tube_area : ℕ → Ratio
tube_area tube = whole (cond (eqb tube 1) 489 452)

unfoldable pub tube_modulus : ℕ → Ratio
tube_modulus tube = whole (cond (eqb tube 1) 5080 5130)

unfoldable pub tube_radius : ℕ → Ratio
tube_radius tube = tenths (cond (eqb tube 1) 158 170)

unfoldable pub tube_inertia : ℕ → Ratio
tube_inertia tube = whole (cond (eqb tube 1) 121900 130800)

-- N/mm²
unfoldable pub f : Ratio
f = whole 205

unfoldable pub E : Ratio
E = whole 206000

-- 0.4 for soils 1 to 3, 0.5 for 4, 1.0 for 5
unfoldable pub soil_factor : ℕ → Ratio
soil_factor soil = tenths (cond (ltb soil 4) 4 (cond (eqb soil 4) 5 10))

-- the table of the length factor, in hundredths, by family, spacing row and tie column
unfoldable pub factors : List (List (List ℕ))
factors =
    ((150 ∷ 170 ∷ []) ∷ (155 ∷ 175 ∷ []) ∷ (160 ∷ 180 ∷ []) ∷ [])
    ∷ ((180 ∷ 200 ∷ []) ∷ (180 ∷ 200 ∷ []) ∷ (180 ∷ 200 ∷ []) ∷ [])
    ∷ []

unfoldable pub factor_at : ℕ → ℕ → ℕ → ℕ
unfolding factors
factor_at family row column = get_or (get_or (get_or factors family []) row []) column 0

-- double row, single row
abbrev pub family_place : ℕ → ℕ
family_place family = cond (eqb family 1) 0 1

-- a double row's spacing, 105, 130 or 155, is row 0, 1 or 2; a single row has one row
abbrev pub spacing_row : ℕ → ℕ → ℕ
spacing_row family lb = cond (eqb family 1) (cond (ltb lb 130) 0 (cond (ltb lb 155) 1 2)) 0

-- t = 2, t = 3
abbrev pub tie_column : ℕ → ℕ
tie_column ties = cond (ltb ties 3) 0 1

-- the length factor of a family, a spacing and a tie interval, in hundredths
unfoldable pub length_factor : ℕ → ℕ → ℕ → ℕ
length_factor family lb ties = factor_at (family_place family) (spacing_row family lb) (tie_column ties)

-- ---- Figures and checks of any pole, of the numbers that they rest on

-- wind: 0.7 × height factor (exposure) × shape × w0, up to a whole N/m²
unfoldable pub wind_pressure : Ratio → Ratio → Ratio → ℕ
wind_pressure exposure shape w0 = up (0·7 ⊗ exposure ⊗ shape ⊗ w0)

-- its moment: 1.19 × wk × la × h² / 10, up to a whole N·mm
unfoldable pub wind_moment : ℕ → Ratio → Ratio → ℕ
wind_moment wk la h = up (mm (1·19 ⊗ whole wk ⊗ la ⊗ h ² ÷ 10))

-- column slenderness x, rounded: up to a tenth where it is at most 250, up to a whole number above (02, request 1)
unfoldable pub rounded : Ratio → Ratio
rounded x = cond (x ≼ whole 250) (tenths (up (whole 10 ⊗ x))) (whole (up x))

-- the sheet's entry k, divided by 1000
unfoldable pub entry : List ℕ → ℕ → Ratio
entry sheet k = thousandths (get_or sheet k 0)

-- on the straight line from a to b, the part r of the way
unfoldable pub between : Ratio → Ratio → Ratio → Ratio
between a b r = a ⊗ (whole 1 ⊖ r) ⊕ b ⊗ r

-- stability factor: up to 250 on the straight line between neighbouring entries, those at Z down and Z up to a whole number; 7320 / Z² above (02, request 1)
unfoldable pub stability_factor : List ℕ → Ratio → Ratio
stability_factor sheet Z =
    cond (Z ≼ whole 250) (between (entry sheet (down Z)) (entry sheet (up Z)) (Z ⊖ whole (down Z))) (whole 7320 ⊘ Z ²)

-- what the ground bears, N: soil factor × strength (kPa) × pad (cm²)
unfoldable pub ground_capacity : ℕ → ℕ → ℕ → Ratio
ground_capacity soil strength pad = soil_factor soil ⊗ (whole 1000 ⊗ whole strength) ⊗ (whole pad ÷ 10000)

-- 7 a force n, at most φ A f
unfoldable pub bears : Ratio → Ratio → ℕ → Bool
bears φ A n = whole n ≼ φ ⊗ A ⊗ f

-- 8 a force n beside a moment m: n/(φ A) + m/W, at most f
unfoldable pub bends : Ratio → Ratio → Ratio → ℕ → ℕ → Bool
bends φ A W n m = whole n ⊘ (φ ⊗ A) ⊕ whole m ⊘ W ≼ f

-- 10 a force n, at most 40,000
unfoldable pub base_bears : ℕ → Bool
base_bears n = whole n ≼ whole 40000

-- 11 a force n, at most soil factor × strength × pad
unfoldable pub ground_bears : ℕ → ℕ → ℕ → ℕ → Bool
ground_bears soil strength pad n = whole n ≼ ground_capacity soil strength pad

module _ (j : Job) where
  -- ---- The job

  abbrev pub double : Bool
  double = eqb j.family 1

  abbrev pub steel : Bool
  steel = eqb j.boards 1

  abbrev pub is_open : Bool
  is_open = eqb j.enclosure 1

  -- pole spacing across, m; the other lengths in m too
  unfoldable pub lb : Ratio
  lb = hundredths j.lb

  unfoldable pub la : Ratio
  la = hundredths j.la

  unfoldable pub h : Ratio
  h = hundredths j.step

  -- tie interval, steps
  unfoldable pub t : Ratio
  t = whole j.ties

  unfoldable pub layers : Ratio
  layers = whole j.boarded

  unfoldable pub working : Ratio
  working = whole j.working

  -- greatest live load on one layer, and summed over layers, N/m²
  unfoldable pub q : Ratio
  q = whole j.q

  unfoldable pub Q : Ratio
  Q = whole j.total

  -- nets per pole, N; structure weight per pole, N/m; basic wind, N/m²
  unfoldable pub S : Ratio
  S = whole j.nets

  unfoldable pub gk : Ratio
  gk = whole j.weight

  unfoldable pub w0 : Ratio
  w0 = whole j.wind

  -- document 01's "height factor", field 16, under the name that the code has
  unfoldable pub exposure : Ratio
  exposure = thousandths j.exposure

  unfoldable pub shield : Ratio
  shield = thousandths j.shield

  unfoldable pub capacity : Ratio
  capacity = whole j.capacity

  -- ---- Constants

  -- the tube's
  unfoldable pub A : Ratio
  A = tube_area j.tube

  unfoldable pub W : Ratio
  W = tube_modulus j.tube

  unfoldable pub i : Ratio
  i = tube_radius j.tube

  unfoldable pub I : Ratio
  I = tube_inertia j.tube

  -- boards 300, 350, 350 N/m²; rails 110, 140, 140 N/m
  unfoldable pub g : Ratio
  g = whole (cond steel 300 350)

  unfoldable pub rail : Ratio
  rail = whole (cond steel 110 140)

  -- the length factor, by spacing and tie interval
  unfoldable pub factor : Ratio
  factor = hundredths (length_factor j.family j.lb j.ties)

  -- ---- Figures

  -- the shield when open; else 1.2 × shield × 1.0 (closed wall) or 1.3
  unfoldable pub shape : Ratio
  shape = cond is_open shield (1·2 ⊗ shield ⊗ cond (eqb j.wall 1) 1·0 1·3)

  -- wind, up to a whole N/m²
  unfoldable pub wk : ℕ
  wk = wind_pressure exposure shape w0

  -- deck width: lb + 0.30 (double), lb (single)
  unfoldable pub b : Ratio
  b = cond double (lb ⊕ 0·30) lb

  -- fittings: layers boarded × g × la × b / 2 + working layers × rail × la + S
  unfoldable pub G2 : Ratio
  G2 = layers ⊗ g ⊗ la ⊗ b ÷ 2 ⊕ working ⊗ rail ⊗ la ⊕ S

  -- live
  unfoldable pub L : Ratio
  L = Q ⊗ la ⊗ b ÷ 2

  -- structure, at the height H in cm
  unfoldable pub G1 : ℕ → Ratio
  G1 H = gk ⊗ hundredths H

  -- forces: 1.2 (G1 + G2) + 1.4 L, and with wind 1.2 (G1 + G2) + 1.19 L; up to a whole newton only when complete
  unfoldable pub exact_N : ℕ → Ratio
  exact_N H = 1·2 ⊗ (G1 H ⊕ G2) ⊕ 1·4 ⊗ L

  unfoldable pub exact_Nw : ℕ → Ratio
  exact_Nw H = 1·2 ⊗ (G1 H ⊕ G2) ⊕ 1·19 ⊗ L

  unfoldable pub N : ℕ → ℕ
  N H = up (exact_N H)

  unfoldable pub Nw : ℕ → ℕ
  Nw H = up (exact_Nw H)

  -- moment
  unfoldable pub Mw : ℕ
  Mw = wind_moment wk la h

  -- column slenderness; unrounded, and as the sheet is read at it
  unfoldable pub exact_Z : Ratio
  exact_Z = 1·155 ⊗ factor ⊗ mm h ⊘ i

  unfoldable pub Z : Ratio
  Z = rounded exact_Z

  -- stability factor
  unfoldable pub φ : List ℕ → Ratio
  φ sheet = stability_factor sheet Z

  -- the ledger's dead and live end loads; Pg and Pq are without the factors 1.2 and 1.4
  unfoldable pub Fg : Ratio
  Fg = 1·2 ⊗ g ⊗ (la ÷ 2) ⊗ (lb ÷ 2)

  unfoldable pub Fq : Ratio
  Fq = 1·4 ⊗ q ⊗ (la ÷ 2) ⊗ (lb ÷ 2)

  unfoldable pub Pg : Ratio
  Pg = g ⊗ (la ÷ 2) ⊗ (lb ÷ 2)

  unfoldable pub Pq : Ratio
  Pq = q ⊗ (la ÷ 2) ⊗ (lb ÷ 2)

  -- ---- Eleven checks

  -- 1 transom moment, at most f W
  unfoldable pub moment1 : ℕ
  moment1 = up (mm ((1·2 ⊗ g ⊕ 1·4 ⊗ q) ⊗ (la ÷ 2) ⊗ lb ² ÷ 8))

  unfoldable pub check1 : Bool
  check1 = whole moment1 ≼ f ⊗ W

  -- 2 transom deflection 5wl⁴/(384EI), mm, with w = (g + q) la/2 in N/mm and l = lb; at most l/150 and at most 10 mm
  unfoldable pub deflection2 : Ratio
  deflection2 = whole 5 ⊗ ((g ⊕ q) ⊗ (la ÷ 2) ÷ 1000) ⊗ mm lb ⁴ ⊘ (whole 384 ⊗ E ⊗ I)

  unfoldable pub check2 : Bool
  check2 = deflection2 ≼ mm lb ÷ 150 && deflection2 ≼ whole 10

  -- 3 ledger moment, at most f W
  unfoldable pub moment3 : ℕ
  moment3 = up (mm ((0·175 ⊗ Fg ⊕ 0·213 ⊗ Fq) ⊗ la))

  unfoldable pub check3 : Bool
  check3 = whole moment3 ≼ f ⊗ W

  -- 4 ledger deflection, mm, at most la/150 and at most 10 mm
  unfoldable pub deflection4 : Ratio
  deflection4 = (1·146 ⊗ Pg ⊕ 1·615 ⊗ Pq) ⊗ mm la ³ ⊘ (whole 100 ⊗ E ⊗ I)

  unfoldable pub check4 : Bool
  check4 = deflection4 ≼ mm la ÷ 150 && deflection4 ≼ whole 10

  -- 5 slip, at most 8,000
  unfoldable pub slip : ℕ
  slip = up (2·15 ⊗ Fg ⊕ 2·30 ⊗ Fq)

  unfoldable pub check5 : Bool
  check5 = whole slip ≼ whole 8000

  -- 6 factor × h / i, unrounded, at most 210 (double) or 230 (single)
  unfoldable pub slenderness : Ratio
  slenderness = factor ⊗ mm h ⊘ i

  unfoldable pub check6 : Bool
  check6 = slenderness ≼ whole (cond double 210 230)

  -- 7 N, at most φ A f
  unfoldable pub check7 : List ℕ → ℕ → Bool
  check7 sheet H = bears (φ sheet) A (N H)

  -- 8 Nw/(φ A) + Mw/W, at most f; not due when w0 is at most 350, the enclosure is open and t × h × 3la is at most 30 m² (4.3.2)
  unfoldable pub check8 : List ℕ → ℕ → Bool
  check8 sheet H = bends (φ sheet) A W (Nw H) Mw

  unfoldable pub not_due : Bool
  not_due = w0 ≼ whole 350 && (is_open && t ⊗ h ⊗ (whole 3 ⊗ la) ≼ whole 30)

  -- 9 tie force, at most the tie capacity
  unfoldable pub tie_force : ℕ
  tie_force = up (1·4 ⊗ whole wk ⊗ t ⊗ h ⊗ (whole 3 ⊗ la) ⊕ whole (cond double 5000 3000))

  unfoldable pub check9 : Bool
  check9 = whole tie_force ≼ capacity

  -- 10 N, at most 40,000
  unfoldable pub check10 : Bool
  check10 = base_bears (N j.height)

  -- 11 N, at most soil factor × strength × pad
  unfoldable pub check11 : Bool
  check11 = ground_bears j.soil j.strength j.pad (N j.height)

  -- ---- Heights

  -- the pole checks at the height H
  unfoldable pub poles : List ℕ → ℕ → Bool
  poles sheet H = check7 sheet H && (not_due || check8 sheet H)

  -- the stability height, cm
  unfoldable pub stability : List ℕ → Option ℕ
  stability sheet = greatest (poles sheet) 6000

  -- the permitted height of a stability height H (5.3.7), cm; that of 2,535 to 2,599 is 2,534 before the caps
  unfoldable pub permitted : ℕ → ℕ
  permitted H =
      min (cond (ltb H 2535) H (cond (ltb H 2600) 2534 (down (whole 100 ⊗ (hundredths H ⊘ (whole 1 ⊕ 0·001 ⊗ hundredths H))))))
      (cond double 5000 2400)

  -- both heights, or none
  unfoldable pub heights : Option ℕ → Heights
  heights None = Nowhere
  heights (Some H) = Both H (permitted H)

  -- 12 the job's height, at most the permitted height; fails where none is reported
  unfoldable pub check12 : Option ℕ → Bool
  check12 None = false
  check12 (Some H) = leb j.height (permitted H)

  -- its figure: the permitted height, 0 if none
  unfoldable pub figure12 : Option ℕ → ℕ
  figure12 None = 0
  figure12 (Some H) = permitted H

  -- ---- the rows of all checks

  -- the row of twelve: 0 not due, 1 passes, 2 fails
  unfoldable pub verdicts : List ℕ → List ℕ
  verdicts sheet =
      verdict check1
      ∷ verdict check2
      ∷ verdict check3
      ∷ verdict check4
      ∷ verdict check5
      ∷ verdict check6
      ∷ verdict (check7 sheet j.height)
      ∷ cond not_due 0 (verdict (check8 sheet j.height))
      ∷ verdict check9
      ∷ verdict check10
      ∷ verdict check11
      ∷ verdict (check12 (stability sheet))
      ∷ []

  -- the figures that the report gives; 2 and 4 in micrometres
  unfoldable pub figures : List ℕ → List ℕ
  figures sheet =
      moment1
      ∷ up (whole 1000 ⊗ deflection2)
      ∷ moment3
      ∷ up (whole 1000 ⊗ deflection4)
      ∷ slip
      ∷ up slenderness
      ∷ N j.height
      ∷ Nw j.height
      ∷ tie_force
      ∷ N j.height
      ∷ N j.height
      ∷ figure12 (stability sheet)
      ∷ []

  -- ---- what a report tells

  -- Z in tenths, a whole number of them
  unfoldable pub column : ℕ
  column = up (whole 10 ⊗ Z)

  unfoldable pub judgement : List ℕ → Judgement
  judgement sheet =
      record {
        verdicts = verdicts sheet;
        figures = figures sheet;
        heights = heights (stability sheet);
        wk = wk;
        mw = Mw;
        z = column;
      }

-- on an `unfolding` line: the job and the constants, and with `paper` all the figures and checks too
unfoldable pub given : Unit {0}
unfolding mm tube_area tube_modulus tube_radius tube_inertia f E soil_factor lb la h t layers working q Q S gk w0 exposure shield capacity A W i I g rail factor
given = tt

unfoldable pub paper : Unit {0}
unfolding fractions given greatest factor_at length_factor wind_pressure wind_moment rounded entry between stability_factor ground_capacity bears bends base_bears ground_bears shape wk b G2 L G1 exact_N exact_Nw N Nw Mw exact_Z Z φ Fg Fq Pg Pq moment1 check1 deflection2 check2 moment3 check3 deflection4 check4 slip check5 slenderness check6 check7 check8 not_due tie_force check9 check10 check11 poles stability permitted heights check12 figure12 verdicts figures column judgement
paper = tt
