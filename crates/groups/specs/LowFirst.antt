-- A number read from its low group on, as the code reads it; no promise speaks of this.
-- Assumes nothing.
use Rattle.std.specs.Prelude.{ℕ, ◌+◌, ◌*◌, Option, Some, None}

-- what was read of a number after c groups of the value v, where the next group's weight is w
unfoldable pub after : ℕ → ℕ → ℕ → Option (ℕ × ℕ) → Option (ℕ × ℕ)
after v w c (Some (x, k)) = Some (v + x * w, c + k)
after v w c None = None
