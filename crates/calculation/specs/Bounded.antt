-- How great a load and a column are: what the products of their parts need to fit 64 bits. A load may be that of sixteen jobs one above the other.
-- Assumes nothing.
use Rattle.std.specs.Prelude.{ℕ, ◌≤◌, ◌<◌, ◌≡◌}
use Rattle.calculation.specs.Parts.{Load, Column}

-- the parts of a load are at most d and v
pub record Within (l : Load) (d v : ℕ) : Type 0 where
  pub dead : l.dead ≤ d
  pub live : l.live ≤ v

-- the load of at most sixteen jobs one above the other
abbrev pub WithinSixteen : Load → Type 0
WithinSixteen l = Within l 5000000000 17760000000

-- r is the load l, and its parts are at most d and v
pub record IsLoad (r l : Load) (d v : ℕ) : Type 0 where
  pub is : r ≡ l
  pub within : Within r d v

-- a column whose stability factor is a proper fraction, above 0 and at most 1; nothing that is divided by is 0
pub record Proper (c : Column) : Type 0 where
  pub over_pos : 0 < c.over
  pub at_most_one : c.over ≤ c.under
  pub under_most : c.under ≤ 100000
  pub area_pos : 0 < c.area
  pub area_most : c.area ≤ 489
  pub modulus_pos : 0 < c.modulus
  pub modulus_most : c.modulus ≤ 5130
