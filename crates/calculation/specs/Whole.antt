-- The whole-number forms that the code works out, each proved equal to that of Section5 in proofs/Same.antt. A figure's unit stands in its comment; lengths are in cm.
-- Assumes nothing.
use Rattle.std.specs.Prelude.{ℕ, zero, suc, ◌+◌, ◌*◌, ◌/◌, min, Bool, false, ◌&&◌, ◌||◌, cond, List, [], ◌∷◌, leb, ltb, eqb, Option, None, Some}
use Rattle.basis.specs.Search.{top}
use Rattle.basis.specs.Fraction.{ceil}
use Rattle.job.specs.declared.Job.{Job}
use Rattle.sheet.specs.StabilityFactor.{over, under}
use Rattle.section5.specs.declared.Heights.{Heights}
use Rattle.section5.specs.declared.Heights.TheVariants.{NoLine, Nowhere, Both}
use Rattle.section5.specs.declared.Judgement.{Judgement}
use Rattle.section5.specs.Section5.{verdict, length_factor}
use Rattle.calculation.specs.Parts.{Load, Column, Effects}

-- ---- constants: by tube (2), boards (8), soil (23), family (1), enclosure (17) and wall (19)

-- A, mm²
abbrev pub area : ℕ → ℕ
area tube = cond (eqb tube 1) 489 452

-- W, mm³
abbrev pub modulus : ℕ → ℕ
modulus tube = cond (eqb tube 1) 5080 5130

-- i, tenths of a mm
abbrev pub radius : ℕ → ℕ
radius tube = cond (eqb tube 1) 158 170

-- E I, N·mm²
abbrev pub stiffness : ℕ → ℕ
stiffness tube = 206000 * cond (eqb tube 1) 121900 130800

-- g, N/m²
abbrev pub board : ℕ → ℕ
board boards = cond (eqb boards 1) 300 350

-- N/m
abbrev pub rail : ℕ → ℕ
rail boards = cond (eqb boards 1) 110 140

-- tenths
abbrev pub soil_factor : ℕ → ℕ
soil_factor soil = cond (ltb soil 4) 4 (cond (eqb soil 4) 5 10)

-- what the deck is wider than the spacing, cm
abbrev pub overhang : ℕ → ℕ
overhang family = cond (eqb family 1) 30 0

-- the tie force without wind, N
abbrev pub tie_base : ℕ → ℕ
tie_base family = cond (eqb family 1) 5000 3000

-- the greatest slenderness of check 6
abbrev pub slender_limit : ℕ → ℕ
slender_limit family = cond (eqb family 1) 210 230

-- the greatest permitted height, cm
abbrev pub height_limit : ℕ → ℕ
height_limit family = cond (eqb family 1) 5000 2400

-- the shape factor for each thousandth of the shield, 1/100,000
abbrev pub shape_unit : ℕ → ℕ → ℕ
shape_unit enclosure wall = cond (eqb enclosure 1) 100 (12 * cond (eqb wall 1) 10 13)

-- ---- wind

-- shape, 1/100,000
abbrev pub shape : ℕ → ℕ → ℕ → ℕ
shape enclosure wall shield = shape_unit enclosure wall * shield

-- N/m², up, of height factor (thousandths), shape and basic wind
unfoldable pub wind_pressure : ℕ → ℕ → ℕ → ℕ
wind_pressure exposure shape wind = ceil (7 * exposure * shape * wind) 1000000000

-- N·mm, up
unfoldable pub wind_moment : ℕ → ℕ → ℕ → ℕ
wind_moment wk la step = ceil (119 * wk * la * (step * step)) 1000000

unfoldable pub wk : Job → ℕ
wk j = wind_pressure j.exposure (shape j.enclosure j.wall j.shield) j.wind

unfoldable pub mw : Job → ℕ
mw j = wind_moment (wk j) j.la j.step

-- ---- loads: their parts in 1/20,000 N

-- the deck's width, cm
abbrev pub deck : ℕ → ℕ → ℕ
deck family lb = lb + overhang family

-- G2 and L
unfoldable pub fittings : Job → ℕ
fittings j =
    j.boarded * board j.boards * j.la * deck j.family j.lb + 200 * j.working * rail j.boards * j.la + 20000 * j.nets

unfoldable pub deck_live : Job → ℕ
deck_live j = j.total * j.la * deck j.family j.lb

-- what a job's pole carries beside the structure
abbrev pub deck_load : Job → Load
deck_load j = record { dead = fittings j; live = deck_live j }

-- a load with H cm more of a structure that weighs so many N/m
abbrev pub raised : Load → ℕ → ℕ → Load
raised l weight H = record { dead = 200 * weight * H + l.dead; live = l.live }

unfoldable pub load : Job → ℕ → Load
load j H = raised (deck_load j) j.weight H

-- N, up: without wind, and with it
unfoldable pub force : Load → ℕ
force l = ceil (12 * l.dead + 14 * l.live) 200000

unfoldable pub force_wind : Load → ℕ
force_wind l = ceil (120 * l.dead + 119 * l.live) 2000000

-- ---- the column

-- a slenderness in tenths, above 250.0 up to a whole number
unfoldable pub rounded_tenths : ℕ → ℕ
rounded_tenths t = cond (leb t 2500) t (10 * ceil t 10)

-- up to a tenth, in tenths
unfoldable pub column_tenths : Job → ℕ
column_tenths j = ceil (1155 * length_factor j.family j.lb j.ties * j.step) (100 * radius j.tube)

-- Z, in tenths
unfoldable pub column_slenderness : Job → ℕ
column_slenderness j = rounded_tenths (column_tenths j)

-- of a tube under a sheet, at a slenderness in tenths
abbrev pub column_at : List ℕ → ℕ → ℕ → Column
column_at s tube z = record { over = over s z; under = under z; area = area tube; modulus = modulus tube }

unfoldable pub column_of : List ℕ → Job → Column
column_of s j = column_at s j.tube (column_slenderness j)

-- factor × h / i, up
unfoldable pub slenderness : Job → ℕ
slenderness j = ceil (length_factor j.family j.lb j.ties * j.step) (radius j.tube)

-- ---- transom and ledger

-- N·mm, up
unfoldable pub transom_moment : Job → ℕ
transom_moment j = ceil ((12 * board j.boards + 14 * j.q) * j.la * (j.lb * j.lb)) 160000

-- the transom's deflection is (transom_load × lb) / (1536 E I) mm
unfoldable pub transom_load : Job → ℕ
transom_load j = (board j.boards + j.q) * j.la * (j.lb * j.lb * j.lb)

-- µm, up
unfoldable pub transom_deflection : Job → ℕ
transom_deflection j = ceil (1000 * (transom_load j * j.lb)) (1536 * stiffness j.tube)

-- N·mm, up
unfoldable pub ledger_moment : Job → ℕ
ledger_moment j = ceil ((2100 * board j.boards + 2982 * j.q) * (j.la * j.la) * j.lb) 40000000

-- the ledger's deflection is (ledger_load × la) / (4,000,000 E I) mm
unfoldable pub ledger_load : Job → ℕ
ledger_load j = (1146 * board j.boards + 1615 * j.q) * (j.la * j.la * j.la) * j.lb

-- µm, up
unfoldable pub ledger_deflection : Job → ℕ
ledger_deflection j = ceil (ledger_load j * j.la) (4000 * stiffness j.tube)

-- N, up
unfoldable pub slip : Job → ℕ
slip j = ceil ((2580 * board j.boards + 3220 * j.q) * j.la * j.lb) 40000000

-- ---- the tie

-- the face that one tie holds, t × h × 3 la, cm²
abbrev pub face : ℕ → ℕ → ℕ → ℕ
face ties step la = ties * step * (3 * la)

-- N, up, of wk
unfoldable pub tie_force : Job → ℕ → ℕ
tie_force j wk = ceil (14 * wk * face j.ties j.step j.la + 100000 * tie_base j.family) 100000

-- ---- the twelve checks

-- a deflection (load × span) / scale mm is at most span / 150 and at most 10 mm; the span is in cm
unfoldable pub deflects : ℕ → ℕ → ℕ → Bool
deflects load span scale = leb (15 * (load * span)) (span * scale) && leb (load * span) (10 * scale)

abbrev pub check1 : Job → Bool
check1 j = leb (transom_moment j) (205 * modulus j.tube)

abbrev pub check2 : Job → Bool
check2 j = deflects (transom_load j) j.lb (1536 * stiffness j.tube)

abbrev pub check3 : Job → Bool
check3 j = leb (ledger_moment j) (205 * modulus j.tube)

abbrev pub check4 : Job → Bool
check4 j = deflects (ledger_load j) j.la (4000000 * stiffness j.tube)

abbrev pub check5 : Job → Bool
check5 j = leb (slip j) 8000

abbrev pub check6 : Job → Bool
check6 j = leb (length_factor j.family j.lb j.ties * j.step) (slender_limit j.family * radius j.tube)

-- 7: n ≤ φ A f, times the denominator of φ
unfoldable pub bears : Column → ℕ → Bool
bears c n = leb (n * c.under) (c.over * (205 * c.area))

-- 8: n / (φ A) + m / W ≤ f, times φ A W
unfoldable pub bends : Column → ℕ → ℕ → Bool
bends c n m = leb (n * c.under * c.modulus + m * c.over * c.area) (205 * c.over * c.area * c.modulus)

-- check 8 is not due in little wind, on an open face, with ties close together (4.3.2)
abbrev pub not_due : Job → Bool
not_due j = leb j.wind 350 && (eqb j.enclosure 1 && leb (face j.ties j.step j.la) 300000)

abbrev pub check9 : Job → ℕ → Bool
check9 j wk = leb (tie_force j wk) j.capacity

-- 10
abbrev pub base_bears : ℕ → Bool
base_bears n = leb n 40000

-- what the ground bears, hundredths of a newton
abbrev pub ground_capacity : ℕ → ℕ → ℕ → ℕ
ground_capacity soil strength pad = soil_factor soil * strength * pad

-- 11
abbrev pub ground_bears : ℕ → ℕ → ℕ → ℕ → Bool
ground_bears soil strength pad n = leb (100 * n) (ground_capacity soil strength pad)

-- 12, of the job's height and what is said of heights: 0 where heights are not asked for; fails where none is reported
abbrev pub verdict12 : ℕ → Heights → ℕ
verdict12 height NoLine = 0
verdict12 height Nowhere = verdict false
verdict12 height (Both H permitted) = verdict (leb height permitted)

-- the permitted height that is reported, 0 if none
abbrev pub figure12 : Heights → ℕ
figure12 NoLine = 0
figure12 Nowhere = 0
figure12 (Both H permitted) = permitted

-- the row of twelve, of the column, wk, Mw, N, Nw, whether 8 is not due, and the heights: 0 not due, 1 passes, 2 fails
unfoldable pub verdicts : Column → Job → ℕ → ℕ → ℕ → ℕ → Bool → Heights → List ℕ
verdicts c j wk mw n nw exempt heights =
    verdict (check1 j)
    ∷ verdict (check2 j)
    ∷ verdict (check3 j)
    ∷ verdict (check4 j)
    ∷ verdict (check5 j)
    ∷ verdict (check6 j)
    ∷ verdict (bears c n)
    ∷ cond exempt 0 (verdict (bends c nw mw))
    ∷ verdict (check9 j wk)
    ∷ verdict (base_bears n)
    ∷ verdict (ground_bears j.soil j.strength j.pad n)
    ∷ verdict12 j.height heights
    ∷ []

-- of wk, N, Nw and the heights
abbrev pub figures : Job → ℕ → ℕ → ℕ → Heights → List ℕ
figures j wk n nw heights =
    transom_moment j
    ∷ transom_deflection j
    ∷ ledger_moment j
    ∷ ledger_deflection j
    ∷ slip j
    ∷ slenderness j
    ∷ n
    ∷ nw
    ∷ tie_force j wk
    ∷ n
    ∷ n
    ∷ figure12 heights
    ∷ []

-- ---- heights

-- the pole checks under a load raised to the height H, beside a moment
unfoldable pub poles : Column → Load → ℕ → ℕ → Bool → ℕ → Bool
poles c l weight m exempt H = bears c (force (raised l weight H)) && (exempt || bends c (force_wind (raised l weight H)) m)

-- 1 + the stability height in cm, or 0 for none
unfoldable pub height_count : Column → Load → ℕ → ℕ → Bool → ℕ
height_count c l weight m exempt = top (poles c l weight m exempt) 6001

-- the height of a count of heights from 0 up
abbrev pub from_count : ℕ → Option ℕ
from_count zero = None
from_count (suc H) = Some H

-- the permitted height of a family and a stability height, cm: below 2,600 at most 2,534
abbrev pub permitted : ℕ → ℕ → ℕ
permitted family H = min (cond (ltb H 2600) (min H 2534) (100000 * H / (100000 + H))) (height_limit family)

-- both heights of a count of heights
abbrev pub heights : ℕ → ℕ → Heights
heights family zero = Nowhere
heights family (suc H) = Both H (permitted family H)

-- ---- what a report tells of a job

-- what wind and load do to the pole, the structure up to the job's own height
unfoldable pub effects : Job → Effects
effects j = record { wk = wk j; mw = mw j; n = force (load j j.height); nw = force_wind (load j j.height); not_due = not_due j }

unfoldable pub count : List ℕ → Job → ℕ
count s j = height_count (column_of s j) (deck_load j) j.weight (mw j) (not_due j)

unfoldable pub judgement : List ℕ → Job → Judgement
judgement s j =
    record {
      verdicts = verdicts (column_of s j) j (wk j) (mw j) (force (load j j.height)) (force_wind (load j j.height)) (not_due j) (heights j.family (count s j));
      figures = figures j (wk j) (force (load j j.height)) (force_wind (load j j.height)) (heights j.family (count s j));
      heights = heights j.family (count s j);
      wk = wk j;
      mw = mw j;
      z = column_slenderness j;
    }
