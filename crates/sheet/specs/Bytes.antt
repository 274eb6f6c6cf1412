-- The entries of a sheet that is handed over as bytes, each entry low byte first.
-- Assumes nothing.
use Rattle.std.specs.Prelude.{ℕ, zero, suc, ◌+◌, ◌*◌, List, [], ◌∷◌, ◌++◌, get_or}

abbrev pub entry : ℕ → ℕ → ℕ
entry low high = low + 256 * high

-- the first n entries
unfoldable pub entries : List ℕ → ℕ → List ℕ
entries bytes zero = []
entries bytes (suc n) = entries bytes n ++ (entry (get_or bytes (2 * n) 0) (get_or bytes (2 * n + 1) 0) ∷ [])
