-- How the code finds how high the pole checks pass: by division. That the heights counted are those of the search is proved in proofs/Stability.antt.
-- Assumes nothing.
use Rattle.std.specs.Prelude.{ℕ, ◌+◌, ◌-◌, ◌*◌, ◌/◌, min, cond, leb}
use Rattle.calculation.specs.Parts.{Load, Column}

-- the greatest force that check 7 passes
unfoldable pub limit7 : Column → ℕ
limit7 c = c.over * (205 * c.area) / c.under

-- the greatest force that check 8 passes beside a moment m of at most f W
unfoldable pub limit8 : Column → ℕ → ℕ
limit8 c m = c.over * c.area * (205 * c.modulus - m) / (c.under * c.modulus)

-- how many of the heights from 0 to 6,000 cm have c + k H at most b
abbrev pub count_up_to : ℕ → ℕ → ℕ → ℕ
count_up_to c k b = cond (leb c b) (min 6001 ((b - c) / k + 1)) 0

-- at how many of them checks 7 and 8 pass
abbrev pub count7 : Column → Load → ℕ → ℕ
count7 c l weight = count_up_to (12 * l.dead + 14 * l.live) (2400 * weight) (200000 * limit7 c)

abbrev pub count8 : Column → Load → ℕ → ℕ → ℕ
count8 c l weight m =
    cond (leb m (205 * c.modulus)) (count_up_to (120 * l.dead + 119 * l.live) (24000 * weight) (2000000 * limit8 c m)) 0
