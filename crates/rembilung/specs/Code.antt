-- What the C calls return, from the values of an answer: a length alone, or refusal × 4,294,967,296 + place, a place above 4,294,967,295 being given as that.
-- Assumes nothing.
use Rattle.std.specs.Prelude.{ℕ, ◌+◌, ◌*◌, min, List, [], ◌∷◌, Result}
use Rattle.basis.specs.Refusal.{number, place}
use Rattle.basis.specs.declared.Refusal.{Refusal}
use Rattle.basis.specs.Writing.{written_values}

-- one value is a length, two are a refusal's number and its place; no call returns others
abbrev pub code_of : List ℕ → ℕ
code_of [] = 0
code_of (n ∷ []) = n
code_of (refusal ∷ (at ∷ [])) = refusal * 4294967296 + min at 4294967295
code_of (refusal ∷ (at ∷ (more ∷ rest))) = 0

-- of a refusal
abbrev pub code : Refusal → ℕ
code refusal = code_of (number refusal ∷ place refusal ∷ [])

-- of an answer: the length of what was written or how many numbers or rows there are, or the refusal
abbrev pub written_code : Result ℕ Refusal → ℕ
written_code written = code_of (written_values written)
