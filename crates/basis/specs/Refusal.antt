-- The refusals of the papers, each with its number and its place: 1 to 8 are document 01's, "Numbers for what can't be judged", 9 to 20 document 02's.
-- Assumes nothing.
use Rattle.std.specs.Prelude.{ℕ, Bool, true, false, Result, Ok, Err}
use Rattle.basis.specs.declared.Refusal.{Refusal}
use Rattle.basis.specs.declared.Refusal.TheVariants.{SheetLength, SheetEntry, FieldRange, Contradiction, UnfitWall, Damaged, Trailing, TooShort, BookDamaged, BookCount, BookRow, Disorder, CellWindow, CellRecord, CellLength, SegmentCount, SegmentRefused, SegmentDisagrees, TimberInput, Allowance}

-- the number that the papers give a refusal
abbrev pub number : Refusal → ℕ
number (SheetLength at) = 1
number (SheetEntry at) = 2
number (FieldRange at) = 3
number (Contradiction at) = 4
number (UnfitWall at) = 5
number (Damaged at) = 6
number (Trailing at) = 7
number (TooShort at) = 8
number (BookDamaged at) = 9
number (BookCount at) = 10
number (BookRow at) = 11
number (Disorder at) = 12
number (CellWindow at) = 13
number (CellRecord at) = 14
number (CellLength at) = 15
number (SegmentCount at) = 16
number (SegmentRefused at) = 17
number (SegmentDisagrees at) = 18
number (TimberInput at) = 19
number (Allowance at) = 20

-- and what its place is
abbrev pub place : Refusal → ℕ
-- the sheet isn't 251 entries: its length
place (SheetLength at) = at
-- the first entry that does not stand
place (SheetEntry at) = at
-- the lowest field outside its range
place (FieldRange at) = at
-- fields that contradict each other: 10 or else 12
place (Contradiction at) = at
-- a wall unfit for a single row: field 20 or else 21
place (UnfitWall at) = at
-- a number of a file is damaged: the offset of its first byte
place (Damaged at) = at
-- the offset of the first extra byte
place (Trailing at) = at
-- the buffer is too short: the length needed
place (TooShort at) = at
-- a book's damaged number or its first extra byte: the offset
place (BookDamaged at) = at
-- a book's count above 200
place (BookCount at) = at
-- a book's first row that 3, 4 or 5 refuse, from 0
place (BookRow at) = at
-- the lowest field of two jobs that is unlike or runs the wrong way
place (Disorder at) = at
-- the number of records that a maximum is taken over
place (CellWindow at) = at
-- the first wrong record of a load cell, from 0
place (CellRecord at) = at
-- the records' length in bytes
place (CellLength at) = at
-- the number of segments
place (SegmentCount at) = at
-- the first segment that 3, 4 or 5 refuse, from 0
place (SegmentRefused at) = at
-- the first segment unlike the ground's, or too high, from 0
place (SegmentDisagrees at) = at
-- the input of a timber prop, from 1
place (TimberInput at) = at
-- the allowance of trials
place (Allowance at) = at

-- what examining answers: nothing is refused, or a refusal
abbrev pub Examined : Type 0
Examined = Result (Unit {0}) Refusal

abbrev pub nothing : Examined
nothing = Ok tt

-- the rest where the test passes, else this refusal
abbrev pub unless : {A : Type 0} → Bool → Refusal → Result A Refusal → Result A Refusal
unless true refusal rest = rest
unless false refusal rest = Err refusal

-- the first refusal of two, and where the first refuses nothing what the second answers
abbrev pub first : {A : Type 0} → Examined → Result A Refusal → Result A Refusal
first (Ok none) rest = rest
first (Err refusal) rest = Err refusal
