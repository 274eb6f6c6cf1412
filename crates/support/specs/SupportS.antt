-- Support S, an example that is worked out by hand from clause 5.6: one pole under 9,000 N dead and 6,000 N live load.
-- Assumes nothing.
use Rattle.std.specs.Prelude.{ℕ, ◌-◌, List, [], ◌∷◌, set}
use Rattle.support.specs.declared.Support.{Support}
use Rattle.support.specs.Support.{support_of}

unfoldable pub numbers_S : List ℕ
numbers_S = 3 ∷ 1 ∷ 150 ∷ 30 ∷ 100 ∷ 9000 ∷ 6000 ∷ 300 ∷ 1000 ∷ 400 ∷ 4 ∷ 200 ∷ 2000 ∷ []

unfoldable pub support_S : Support
unfolding support_of numbers_S
support_S = support_of numbers_S

-- the same with its number at place k, from 1, set to n
unfoldable pub support_S_with : ℕ → ℕ → Support
unfolding support_of numbers_S
support_S_with k n = support_of (set numbers_S (k - 1) n)
