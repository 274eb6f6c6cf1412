-- A number within a range, and the lowest of a row of tests that fails.
-- Assumes nothing.
use Rattle.std.specs.Prelude.{ℕ, suc, Bool, ◌&&◌, List, [], ◌∷◌, leb}
use Rattle.basis.specs.declared.Refusal.{Refusal}
use Rattle.basis.specs.Refusal.{Examined, nothing, unless}

-- x is from lo to hi
abbrev pub within : ℕ → ℕ → ℕ → Bool
within lo hi x = leb lo x && leb x hi

-- refused at the place of the first test that fails, the places counted from the first number on
abbrev pub lowest : (ℕ → Refusal) → ℕ → List Bool → Examined
lowest refusal place [] = nothing
lowest refusal place (test ∷ tests) = unless test (refusal place) (lowest refusal (suc place) tests)
