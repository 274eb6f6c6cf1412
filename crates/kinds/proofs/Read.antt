-- What a number is worth that is read as a kind and written back: itself where a kind has it, and whatever it is the same to each table of document 01.
-- Assumes nothing.
use mathlib.Core.Path.{◌≡◌, refl}
use Prim.Native.Nat.{ℕ, zero, suc, ◌≤◌, ◌<◌}
use native.Mathlib.Omega.{arith}
use lib.Dec.{eqb, ltb}
use borrow.Author.Tests.{ne_eqb, lt-leb, le-ltb}
use Rattle.kinds.specs.declared.Soil.TheVariants.{Rock}
use Rattle.kinds.specs.Kinds.{family_number, tube_number, boards_number, enclosure_number, wall_number, soil_number, family_of, tube_of, boards_of, enclosure_of, wall_of, soil_of}

-- a number that a kind has is its own
pub family_own : (n : ℕ) → 1 ≤ n → n ≤ 2 → family_number (family_of n) ≡ n
family_own zero l m = absurd (omega arith)
family_own (suc zero) l m = refl
family_own (suc (suc zero)) l m = refl
family_own (suc (suc (suc n))) l m = absurd (omega arith)

pub tube_own : (n : ℕ) → 1 ≤ n → n ≤ 2 → tube_number (tube_of n) ≡ n
tube_own zero l m = absurd (omega arith)
tube_own (suc zero) l m = refl
tube_own (suc (suc zero)) l m = refl
tube_own (suc (suc (suc n))) l m = absurd (omega arith)

pub boards_own : (n : ℕ) → 1 ≤ n → n ≤ 3 → boards_number (boards_of n) ≡ n
boards_own zero l m = absurd (omega arith)
boards_own (suc zero) l m = refl
boards_own (suc (suc zero)) l m = refl
boards_own (suc (suc (suc zero))) l m = refl
boards_own (suc (suc (suc (suc n)))) l m = absurd (omega arith)

pub enclosure_own : (n : ℕ) → 1 ≤ n → n ≤ 3 → enclosure_number (enclosure_of n) ≡ n
enclosure_own zero l m = absurd (omega arith)
enclosure_own (suc zero) l m = refl
enclosure_own (suc (suc zero)) l m = refl
enclosure_own (suc (suc (suc zero))) l m = refl
enclosure_own (suc (suc (suc (suc n)))) l m = absurd (omega arith)

pub wall_own : (n : ℕ) → 1 ≤ n → n ≤ 2 → wall_number (wall_of n) ≡ n
wall_own zero l m = absurd (omega arith)
wall_own (suc zero) l m = refl
wall_own (suc (suc zero)) l m = refl
wall_own (suc (suc (suc n))) l m = absurd (omega arith)

pub soil_own : (n : ℕ) → 1 ≤ n → n ≤ 5 → soil_number (soil_of n) ≡ n
soil_own zero l m = absurd (omega arith)
soil_own (suc zero) l m = refl
soil_own (suc (suc zero)) l m = refl
soil_own (suc (suc (suc zero))) l m = refl
soil_own (suc (suc (suc (suc zero)))) l m = refl
soil_own (suc (suc (suc (suc (suc zero))))) l m = refl
soil_own (suc (suc (suc (suc (suc (suc n)))))) l m = absurd (omega arith)

-- the tables of five kinds ask whether it is the first
pub family_first : (n : ℕ) → eqb (family_number (family_of n)) 1 ≡ eqb n 1
family_first zero = refl
family_first (suc zero) = refl
family_first (suc (suc n)) = rw (ne_eqb (suc (suc n)) 1 (λ e. omega arith)) refl

pub tube_first : (n : ℕ) → eqb (tube_number (tube_of n)) 1 ≡ eqb n 1
tube_first zero = refl
tube_first (suc zero) = refl
tube_first (suc (suc n)) = rw (ne_eqb (suc (suc n)) 1 (λ e. omega arith)) refl

pub boards_first : (n : ℕ) → eqb (boards_number (boards_of n)) 1 ≡ eqb n 1
boards_first zero = refl
boards_first (suc zero) = refl
boards_first (suc (suc zero)) = refl
boards_first (suc (suc (suc n))) = rw (ne_eqb (suc (suc (suc n))) 1 (λ e. omega arith), ne_eqb (suc (suc (suc n))) 2 (λ e. omega arith)) refl

pub enclosure_first : (n : ℕ) → eqb (enclosure_number (enclosure_of n)) 1 ≡ eqb n 1
enclosure_first zero = refl
enclosure_first (suc zero) = refl
enclosure_first (suc (suc zero)) = refl
enclosure_first (suc (suc (suc n))) = rw (ne_eqb (suc (suc (suc n))) 1 (λ e. omega arith), ne_eqb (suc (suc (suc n))) 2 (λ e. omega arith)) refl

pub wall_first : (n : ℕ) → eqb (wall_number (wall_of n)) 1 ≡ eqb n 1
wall_first zero = refl
wall_first (suc zero) = refl
wall_first (suc (suc n)) = rw (ne_eqb (suc (suc n)) 1 (λ e. omega arith)) refl

-- that of soils, whether it is below the fourth, and whether it is the fourth
rock : (n : ℕ) → 4 < n → soil_of n ≡ Rock
rock n l = rw (lt-leb n 1 (omega arith), ne_eqb n 2 (λ e. omega arith), ne_eqb n 3 (λ e. omega arith), ne_eqb n 4 (λ e. omega arith)) refl

pub soil_below : (n : ℕ) → ltb (soil_number (soil_of n)) 4 ≡ ltb n 4
soil_below zero = refl
soil_below (suc zero) = refl
soil_below (suc (suc zero)) = refl
soil_below (suc (suc (suc zero))) = refl
soil_below (suc (suc (suc (suc zero)))) = refl
soil_below (suc (suc (suc (suc (suc n))))) = rw (rock (suc (suc (suc (suc (suc n))))) (omega arith), le-ltb (suc (suc (suc (suc (suc n))))) 4 (omega arith)) refl

pub soil_fourth : (n : ℕ) → eqb (soil_number (soil_of n)) 4 ≡ eqb n 4
soil_fourth zero = refl
soil_fourth (suc zero) = refl
soil_fourth (suc (suc zero)) = refl
soil_fourth (suc (suc (suc zero))) = refl
soil_fourth (suc (suc (suc (suc zero)))) = refl
soil_fourth (suc (suc (suc (suc (suc n))))) = rw (rock (suc (suc (suc (suc (suc n))))) (omega arith), ne_eqb (suc (suc (suc (suc (suc n))))) 4 (λ e. omega arith)) refl
