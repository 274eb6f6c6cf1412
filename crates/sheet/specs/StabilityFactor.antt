-- The stability factor of a sheet, in whole numbers: its numerator and its denominator at a slenderness of so many tenths; and that it weakens.
-- Assumes nothing.
use Rattle.std.specs.Prelude.{cond, ℕ, ◌+◌, ◌-◌, ◌*◌, ◌/◌, ◌%◌, ◌≤◌, ◌<◌, ◌≡◌, List, get_or, leb}
use Rattle.sheet.specs.declared.standing.StabilityFactor.{StabilityFactor}
use Rattle.sheet.specs.Rows.{Stands}

-- z tenths, down and up to a whole number
abbrev pub below : ℕ → ℕ
below z = z / 10

abbrev pub above : ℕ → ℕ
above z = (z + 9) / 10

-- r tenths of the way from a to b, in tenths
abbrev pub between : ℕ → ℕ → ℕ → ℕ
between a b r = a * (10 - r) + b * r

-- on the straight line between the entries below and above z, in ten-thousandths
unfoldable pub line : List ℕ → ℕ → ℕ
line sheet z = between (get_or sheet (below z) 0) (get_or sheet (above z) 0) (z % 10)

-- the line up to 250.0; 7320 / Z² above, with the whole number Z
unfoldable pub over : List ℕ → ℕ → ℕ
over sheet z = cond (leb z 2500) (line sheet z) 7320

unfoldable pub under : ℕ → ℕ
under z = cond (leb z 2500) 10000 (above z * above z)

-- f is the stability factor of the sheet at z; it is above 0 and at most 1, and its parts are small
pub record Reading (f : StabilityFactor) (sheet : List ℕ) (z : ℕ) : Type 0 where
  pub over_is : f.over ≡ over sheet z
  pub over_pos : 0 < f.over
  pub under_is : f.under ≡ under z
  pub under_most : f.under ≤ 100000
  pub at_most_one : f.over ≤ f.under

-- o' / u' is a stability factor above 0, and no greater than o / u
pub record Weaker (o u o' u' : ℕ) : Type 0 where
  pub falls : o' * u ≤ o * u'
  pub over : 0 < o'
  pub under : 0 < u'

-- of every sheet that stands, a greater slenderness never has a stronger factor: within an interval, across entries, and at 250.0 against 251
pub record Weakens : Type 0 where
  pub weaker : (sheet : List ℕ) → Stands sheet → {z z' : ℕ} → z ≤ z' → Weaker (over sheet z) (under z) (over sheet z') (under z')
