-- What writing a text at the front of a lent buffer answers and leaves: the text's length and every later byte as it was, or a refusal and every byte as it was.
-- Assumes nothing.
use Rattle.std.specs.Prelude.{ℕ, List, [], ◌∷◌, ◌++◌, leb, length, drop, Result, Ok, Err}
use Rattle.basis.specs.Refusal.{number, place, Examined, nothing, unless, first}
use Rattle.basis.specs.declared.Refusal.{Refusal}
use Rattle.basis.specs.declared.Refusal.TheVariants.{TooShort}

-- 8, with the length needed
abbrev pub room_refusal : List ℕ → List ℕ → Examined
room_refusal text out = unless (leb (length text) (length out)) (TooShort (length text)) nothing

-- a length where nothing is refused, else the refusal
abbrev pub written_or : Examined → ℕ → Result ℕ Refusal
written_or examined n = first examined (Ok n)

-- a buffer with a text written at its front, and every later byte as it was
abbrev pub written_over : List ℕ → List ℕ → List ℕ
written_over text out = text ++ drop (length text) out

-- the buffer afterwards
abbrev pub left_or : {A : Type 0} → Result A Refusal → List ℕ → List ℕ → List ℕ
left_or (Ok done) text out = written_over text out
left_or (Err refusal) text out = out

-- the papers' values for each answer: the length alone, or the refusal's number and its place
abbrev pub written_values : Result ℕ Refusal → List ℕ
written_values (Ok n) = n ∷ []
written_values (Err refusal) = number refusal ∷ place refusal ∷ []
