-- How the code tests a sheet: one pass over all entries, faster than each entry's own test. That nothing is refused of a sheet that passes is proved in proofs/Sound.antt.
-- Assumes nothing.
use Rattle.std.specs.Prelude.{ℕ, zero, suc, Bool, true, ◌&&◌, List, get_or, leb}

-- none of the n entries after entry 0 is greater than the entry before it
unfoldable pub falling : List ℕ → ℕ → Bool
falling sheet zero = true
falling sheet (suc n) = falling sheet n && leb (get_or sheet (suc n) 0) (get_or sheet n 0)

-- the sheet falls from at most 1,000 to at least 117
abbrev pub sound : List ℕ → Bool
sound sheet = leb (get_or sheet 0 0) 1000 && (leb 117 (get_or sheet 250 0) && falling sheet 250)
