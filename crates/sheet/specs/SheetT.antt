-- Sheet T of document 01, for tests only: entry k is 1000 − 4k, but at least 150.
-- Assumes nothing.
use Rattle.std.specs.Prelude.{ℕ, zero, suc, ◌*◌, ◌-◌, max, List, [], ◌∷◌}

-- f at each number below n, before l
unfoldable pub tabulated : (ℕ → ℕ) → ℕ → List ℕ → List ℕ
tabulated f zero l = l
tabulated f (suc n) l = tabulated f n (f n ∷ l)

unfoldable pub sheet_T : List ℕ
unfolding tabulated
sheet_T = tabulated (λ k. max (1000 - 4 * k) 150) 251 []
