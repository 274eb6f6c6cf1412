-- Document 02, request 2: a heavier or weaker-founded support, otherwise alike, gets no pass back; about what judging answers.
-- Assumes nothing.
use Rattle.std.specs.Prelude.{◌≡◌, List, [], ◌∷◌, ℕ}
use Rattle.support.specs.declared.Support.{Support}
use Rattle.support.specs.Support.{support_of}
use Rattle.support.specs.SupportS.{support_S}
use Rattle.sheet.specs.SheetT.{sheet_T}
use Rattle.section5.specs.Harsher.{HarsherSupport}
use Rattle.judge.specs.Answer.{verdict_in}
use Rattle.formwork.specs.Answer.{Accepted, answer}

-- verdict i, from 0, of what judging answers
abbrev pub verdict_at : List ℕ → Support → ℕ → ℕ
verdict_at sheet s i = verdict_in (answer sheet s) i

-- a support that differs from S in every field that the order does not hold equal
unfoldable pub harsh : Support
unfolding support_of
harsh = support_of (3 ∷ 1 ∷ 160 ∷ 40 ∷ 110 ∷ 9100 ∷ 6100 ∷ 310 ∷ 1100 ∷ 410 ∷ 3 ∷ 190 ∷ 1900 ∷ [])

pub record Order : Type 0 where
  -- every check that fails for the first support fails for the second
  pub no_pass_gained : (sheet : List ℕ) (s t : Support) → Accepted sheet s → Accepted sheet t → HarsherSupport s t → (i : ℕ) → verdict_at sheet s i ≡ 2 → verdict_at sheet t i ≡ 2
  -- supports can stand in this order: each with itself, and unlike ones that are both accepted
  pub reflexive : (s : Support) → HarsherSupport s s
  pub unlike : Accepted sheet_T support_S × Accepted sheet_T harsh × HarsherSupport support_S harsh
