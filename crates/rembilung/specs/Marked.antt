-- Marked cases of the whole call, job J's report and support S's, of the call on two ends, of the call on load cells, and of the call on a sheet and a book; of two things that are to be refused the one that comes first.
-- Assumes nothing.
use Rattle.std.specs.Prelude.{ℕ, ◌/◌, ◌%◌, List, [], ◌∷◌, ◌++◌, set, replicate}
use Rattle.basis.specs.Marked.{Row, row}
use Rattle.job.specs.JobJ.{numbers_J}
use Rattle.support.specs.SupportS.{numbers_S}
use Rattle.sheet.specs.Bytes.{entries}
use Rattle.sheet.specs.SheetT.{sheet_T}
use Rattle.groups.specs.Encode.{encode_all}
use Rattle.jobfile.specs.Kind.{scaffold, support}
use Rattle.jobfile.specs.Marked.{longest}
use Rattle.book.specs.Book.{book_of}
use Rattle.cells.specs.Marked.{five}
use Rattle.rembilung.specs.Call.{call_code, between_code, cells_code, first_code, first_buffer}
use Rattle.rembilung.specs.Header.{report_most}

-- the bytes of a sheet's entries, low byte first
unfoldable pub sheet_bytes : List ℕ → List ℕ
sheet_bytes [] = []
sheet_bytes (e ∷ entries) = e % 256 ∷ e / 256 ∷ sheet_bytes entries

-- what the whole call returns for a sheet, a file and a buffer of so many bytes: its upper half and its lower half
unfoldable pub returned : List ℕ → List ℕ → ℕ → List ℕ
returned sheet file room =
    call_code (sheet_bytes sheet) file (replicate room 0) / 4294967296 ∷ call_code (sheet_bytes sheet) file (replicate room 0) % 4294967296 ∷ []

-- what the call on two ends returns: its upper half and its lower half
unfoldable pub between_returned : List ℕ → List ℕ → List ℕ → List ℕ
between_returned sheet mild harsh = between_code (sheet_bytes sheet) mild harsh / 4294967296 ∷ between_code (sheet_bytes sheet) mild harsh % 4294967296 ∷ []

-- what the call on load cells returns, for an output of so many bytes
unfoldable pub cells_returned : List ℕ → ℕ → ℕ → List ℕ
cells_returned records w room = cells_code records w (replicate room 0) / 4294967296 ∷ cells_code records w (replicate room 0) % 4294967296 ∷ []

-- what the call on a sheet and a book returns, and what it leaves of 7 and 8
unfoldable pub first_returned : List ℕ → List ℕ → List ℕ
first_returned sheet book =
    first_code (sheet_bytes sheet) book / 4294967296 ∷ first_code (sheet_bytes sheet) book % 4294967296 ∷ first_buffer (sheet_bytes sheet) book (7 ∷ 8 ∷ [])

unfoldable pub rows : List Row
unfolding sheet_T numbers_J numbers_S longest five returned between_returned cells_returned first_returned encode_all
rows =
    -- J's report has 161 bytes
    row (returned sheet_T (encode_all numbers_J) (report_most scaffold)) (0 ∷ 161 ∷ [])
    ∷ row (returned sheet_T (encode_all numbers_J) 160) (8 ∷ 161 ∷ [])
    -- S's has 117, the longest support's 127
    ∷ row (returned sheet_T (encode_all numbers_S) (report_most support)) (0 ∷ 117 ∷ [])
    ∷ row (returned sheet_T (encode_all numbers_S) 116) (8 ∷ 117 ∷ [])
    ∷ row (returned sheet_T (encode_all (longest support)) (report_most support)) (0 ∷ 127 ∷ [])
    -- a sheet before a file: no sheet, and one whose entry 250 is 116, with a file of 80 00
    ∷ row (returned [] (128 ∷ 0 ∷ []) 0) (1 ∷ 0 ∷ [])
    ∷ row (returned (set sheet_T 250 116) (128 ∷ 0 ∷ []) 0) (2 ∷ 250 ∷ [])
    ∷ row (returned sheet_T (128 ∷ 0 ∷ []) 0) (6 ∷ 0 ∷ [])
    -- the file's bytes before its job: a byte after J's, whose pad is 99
    ∷ row (returned sheet_T (encode_all (set numbers_J 24 99) ++ (0 ∷ [])) 0) (7 ∷ 37 ∷ [])
    -- a field before a contradiction: 9 working layers on 4 boarded, and a pad of 99
    ∷ row (returned sheet_T (encode_all (set (set numbers_J 24 99) 9 9)) 0) (3 ∷ 25 ∷ [])
    ∷ row (returned sheet_T (encode_all (set numbers_J 9 9)) 0) (4 ∷ 10 ∷ [])
    -- the same of a support: a sheet before a file, its bytes before its numbers, these before the buffer
    ∷ row (returned [] (encode_all (set numbers_S 12 99) ++ (0 ∷ [])) 0) (1 ∷ 0 ∷ [])
    ∷ row (returned sheet_T (encode_all (set numbers_S 12 99) ++ (0 ∷ [])) 0) (7 ∷ 20 ∷ [])
    ∷ row (returned sheet_T (encode_all (set numbers_S 12 99)) 0) (3 ∷ 13 ∷ [])
    -- of two ends: a sheet before the mild job, the mild before the harsh, both before their order, whose field 4 runs the wrong way
    ∷ row (between_returned [] (set numbers_J 24 99) numbers_J) (1 ∷ 0 ∷ [])
    ∷ row (between_returned (set sheet_T 250 116) (set numbers_J 24 99) numbers_J) (2 ∷ 250 ∷ [])
    ∷ row (between_returned sheet_T (set numbers_J 24 99) (set numbers_J 9 9)) (3 ∷ 25 ∷ [])
    ∷ row (between_returned sheet_T (set numbers_J 3 151) (set numbers_J 9 9)) (4 ∷ 35 ∷ [])
    ∷ row (between_returned sheet_T (set numbers_J 3 151) numbers_J) (12 ∷ 4 ∷ [])
    ∷ row (between_returned sheet_T numbers_J numbers_J) (0 ∷ 14 ∷ [])
    -- of load cells: w before the length, the length before a record, whose kind is 9, a record before the output
    ∷ row (cells_returned (9 ∷ five) 501 0) (13 ∷ 501 ∷ [])
    ∷ row (cells_returned (9 ∷ five) 500 0) (15 ∷ 41 ∷ [])
    ∷ row (cells_returned (five ++ (9 ∷ 0 ∷ 0 ∷ 0 ∷ 0 ∷ 0 ∷ 0 ∷ 0 ∷ [])) 500 0) (14 ∷ 5 ∷ [])
    ∷ row (cells_returned five 500 19) (8 ∷ 20 ∷ [])
    ∷ row (cells_returned five 500 20) (0 ∷ 20 ∷ [])
    -- of a sheet and a book: a sheet before a book, whether of 80 or of no bytes; then a bad row behind J, which fails
    ∷ row (first_returned [] (128 ∷ [])) (1 ∷ 0 ∷ 7 ∷ 8 ∷ [])
    ∷ row (first_returned (set sheet_T 250 116) []) (2 ∷ 250 ∷ 7 ∷ 8 ∷ [])
    ∷ row (first_returned sheet_T (128 ∷ [])) (9 ∷ 0 ∷ 7 ∷ 8 ∷ [])
    ∷ row (first_returned sheet_T (book_of 2 (numbers_J ++ set numbers_J 24 99))) (11 ∷ 1 ∷ 7 ∷ 8 ∷ [])
    ∷ row (first_returned sheet_T (book_of 1 numbers_J)) (0 ∷ 2 ∷ 0 ∷ 1 ∷ [])
    ∷ row (first_returned sheet_T []) (0 ∷ 2 ∷ 4294967295 ∷ 0 ∷ [])
    ∷ []
