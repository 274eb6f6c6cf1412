-- Books worked out by hand, under sheet T: in each row what the definitions compute, and what stands on paper.
-- Assumes nothing.
use Rattle.std.specs.Prelude.{ℕ, List, [], ◌∷◌, ◌++◌, set, Result, Ok, Err}
use Rattle.basis.specs.Refusal.{number, place}
use Rattle.basis.specs.declared.Refusal.{Refusal}
use Rattle.basis.specs.Marked.{Row, row}
use Rattle.job.specs.JobJ.{numbers_J}
use Rattle.sheet.specs.SheetT.{sheet_T}
use Rattle.book.specs.Book.{book_of}
use Rattle.failing.specs.declared.FirstFailing.{FirstFailing}
use Rattle.failing.specs.Failing.{answer, numbers}

-- J on ground of 201 kPa, which passes every check; J itself, on 200 kPa, fails check 11
unfoldable pub firm : List ℕ
unfolding numbers_J
firm = set numbers_J 23 201

-- on ground of 300 kPa and 3,174 cm high, a centimetre above what is permitted: it fails check 12 alone
unfoldable pub high : List ℕ
unfolding numbers_J
high = set (set numbers_J 23 300) 6 3174

-- the place and the rows judged, or the number and the place of what is refused
unfoldable pub shown : Result FirstFailing Refusal → List ℕ
unfolding numbers
shown (Ok told) = numbers told
shown (Err refusal) = number refusal ∷ place refusal ∷ []

unfoldable pub told_of : ℕ → List ℕ → List ℕ
unfolding sheet_T shown
told_of n rows = shown (answer sheet_T (book_of n rows))

unfoldable pub rows : List Row
unfolding sheet_T numbers_J firm high shown told_of
rows =
    -- no bytes at all, and no rows: none fails, none is judged
    row (shown (answer sheet_T [])) (4294967295 ∷ 0 ∷ [])
    ∷ row (told_of 0 []) (4294967295 ∷ 0 ∷ [])
    -- J alone
    ∷ row (told_of 1 numbers_J) (0 ∷ 1 ∷ [])
    -- J on 201 kPa and then J, and a third that is not judged
    ∷ row (told_of 2 (firm ++ numbers_J)) (1 ∷ 2 ∷ [])
    ∷ row (told_of 3 (firm ++ (numbers_J ++ numbers_J))) (1 ∷ 2 ∷ [])
    -- two that pass
    ∷ row (told_of 2 (firm ++ firm)) (4294967295 ∷ 2 ∷ [])
    -- one that fails check 12 and no other
    ∷ row (told_of 2 (firm ++ high)) (1 ∷ 2 ∷ [])
    -- a bad row behind one that fails, a pad of 99 cm²: the whole book is refused
    ∷ row (told_of 2 (numbers_J ++ set numbers_J 24 99)) (11 ∷ 1 ∷ [])
    -- a byte too many behind one that fails; a count of 201; a count that does not end
    ∷ row (shown (answer sheet_T (book_of 1 numbers_J ++ (0 ∷ [])))) (9 ∷ 39 ∷ [])
    ∷ row (shown (answer sheet_T (201 ∷ 1 ∷ []))) (10 ∷ 201 ∷ [])
    ∷ row (shown (answer sheet_T (128 ∷ []))) (9 ∷ 0 ∷ [])
    -- the sheet first, whatever the book: no entries, and entry 250 at 116
    ∷ row (shown (answer [] [])) (1 ∷ 0 ∷ [])
    ∷ row (shown (answer (set sheet_T 250 116) (128 ∷ []))) (2 ∷ 250 ∷ [])
    ∷ []
