-- Document 01, "Job file": numbers in groups of seven bits, low group first, top bit set on every byte but the last.
-- Assumes nothing.
use Rattle.std.specs.Prelude.{cond, ℕ, zero, suc, ◌+◌, ◌/◌, ◌%◌, List, [], ◌∷◌, ◌++◌, ltb}

-- the groups of n, of which at most f stand before the last
unfoldable pub groups : ℕ → ℕ → List ℕ
groups zero n = n ∷ []
groups (suc f) n = cond (ltb n 128) (n ∷ []) ((n % 128 + 128) ∷ groups f (n / 128))

-- the bytes of a number up to 4,294,967,295: at most five
unfoldable pub encode : ℕ → List ℕ
encode n = groups 4 n

-- the bytes of each number, one after the other
unfoldable pub encode_all : List ℕ → List ℕ
encode_all [] = []
encode_all (n ∷ ns) = encode n ++ encode_all ns
