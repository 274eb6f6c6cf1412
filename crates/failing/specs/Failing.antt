-- Document 02, request 9: of a book's rows, all of them judged under a sheet, the first with a failed check; and how many rows are judged to find it.
-- Assumes nothing.
use Rattle.std.specs.List.{range_with_len, list_any}
use Rattle.std.specs.Prelude.{ℕ, ◌+◌, Bool, List, [], ◌∷◌, map, eqb, position, Option, None, Some, unwrap_or, Result, Ok}
use Rattle.basis.specs.Refusal.{first}
use Rattle.basis.specs.declared.Refusal.{Refusal}
use Rattle.job.specs.Job.{job_of}
use Rattle.sheet.specs.Sheet.{examination}
use Rattle.section5.specs.declared.Judgement.{Judgement}
use Rattle.section5.specs.Section5.{judgement}
use Rattle.book.specs.Book.{row}
use Rattle.book.specs.Read.{count_in, rows_in, book_refusal}
use Rattle.failing.specs.declared.FirstFailing.{FirstFailing}

-- "a failed check" is a 2 among the twelve verdicts
abbrev pub failed : Judgement → Bool
failed g = list_any (λ verdict. eqb verdict 2) g.verdicts

-- the judgements of all rows of a book under a sheet, in their order
unfoldable pub judgements : List ℕ → List ℕ → List Judgement
judgements sheet book = map (λ r. judgement (job_of (row (rows_in book) r)) sheet) (range_with_len 0 (count_in book))

-- the place of the first with a failed check, from 0, or none
unfoldable pub place_in : List ℕ → List ℕ → Option ℕ
place_in sheet book = position failed (judgements sheet book)

-- how many of n rows are judged to find it: that row and those before it; all where none fails
abbrev pub judged : Option ℕ → ℕ → ℕ
judged (Some r) n = r + 1
judged None n = n

unfoldable pub told : List ℕ → List ℕ → FirstFailing
told sheet book = record { place = place_in sheet book; judged = judged (place_in sheet book) (count_in book) }

-- 1 and 2 of the sheet, then 10, 9 and 11 of the whole book, or what is told where nothing is refused
abbrev pub answer : List ℕ → List ℕ → Result FirstFailing Refusal
answer sheet book = first (examination sheet) (first (book_refusal book) (Ok (told sheet book)))

-- the papers' numbers, no place being the greatest of 32 bits
unfoldable pub numbers : FirstFailing → List ℕ
numbers t = unwrap_or t.place 4294967295 ∷ t.judged ∷ []
