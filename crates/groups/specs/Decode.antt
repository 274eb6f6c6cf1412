-- Reading a number from groups of seven bits: its shortest form only, at most five bytes and 4,294,967,295.
-- Assumes nothing.
use Rattle.std.specs.Prelude.{cond, ℕ, zero, suc, ◌+◌, ◌*◌, ◌%◌, ◌^◌, ◌<◌, List, [], ◌∷◌, ltb, eqb, get_or, Option, Some, None}

-- each element is a byte
abbrev pub Bytes : List ℕ → Type 0
Bytes bs = (i : ℕ) → get_or bs i 0 < 256

-- a last group after others is not 0
unfoldable pub last_group : ℕ → Option (ℕ × ℕ)
last_group b = cond (eqb b 0) None (Some (b, 1))

-- one group before those that were read
unfoldable pub extend : ℕ → Option (ℕ × ℕ) → Option (ℕ × ℕ)
extend b (Some (v, k)) = Some (v * 128 + b % 128, k + 1)
extend b None = None

-- the groups after the first, of which at most f stand before the last
unfoldable pub later_groups : ℕ → List ℕ → Option (ℕ × ℕ)
later_groups zero [] = None
later_groups (suc f) [] = None
later_groups zero (b ∷ bs) = cond (ltb b 128) (last_group b) None
later_groups (suc f) (b ∷ bs) = cond (ltb b 128) (last_group b) (extend b (later_groups f bs))

-- a number up to 4,294,967,295
unfoldable pub limit : Option (ℕ × ℕ) → Option (ℕ × ℕ)
limit (Some (v, k)) = cond (ltb v (2 ^ 32)) (Some (v, k)) None
limit None = None

-- the number at the front of some bytes, and how many bytes it takes
unfoldable pub decode : List ℕ → Option (ℕ × ℕ)
decode [] = None
decode (b ∷ bs) = cond (ltb b 128) (Some (b, 1)) (limit (extend b (later_groups 3 bs)))
