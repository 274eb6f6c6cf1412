-- What the code hands on in parts: a load, a column, a pole, its ground, and what wind and load do to a pole.
-- Assumes nothing.
use Rattle.std.specs.Prelude.{ℕ, Bool}

-- dead and live load, in 1/20,000 N
pub record Load : Type 0 where
  pub dead : ℕ
  pub live : ℕ

-- the stability factor, over / under, and the tube's area and modulus
pub record Column : Type 0 where
  pub over : ℕ
  pub under : ℕ
  pub area : ℕ
  pub modulus : ℕ

-- what a pole bears with, what it carries beside the structure, and the structure's weight, N/m
pub record Pole : Type 0 where
  pub column : Column
  pub load : Load
  pub weight : ℕ

-- what a pole stands on: soil, strength in kPa, and the pad's area in cm²
pub record Ground : Type 0 where
  pub soil : ℕ
  pub strength : ℕ
  pub pad : ℕ

-- wk, Mw, N, Nw, and whether check 8 is not due
pub record Effects : Type 0 where
  pub wk : ℕ
  pub mw : ℕ
  pub n : ℕ
  pub nw : ℕ
  pub not_due : Bool
