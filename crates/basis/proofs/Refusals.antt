-- Laws of refusals: each has a number above 0, and what an examination that refuses nothing says of its tests.
-- Assumes nothing.
use mathlib.Core.Path.{◌≡◌, refl}
use mathlib.Core.Bool.{Bool, true, false}
use Prim.Native.Nat.{◌<◌}
use lib.Dec.{T, lit<}
use Rattle.std.specs.Prelude.{Result, Ok, Err}
use Rattle.basis.specs.declared.Refusal.{Refusal}
use Rattle.basis.specs.declared.Refusal.TheVariants.{SheetLength, SheetEntry, FieldRange, Contradiction, UnfitWall, Damaged, Trailing, TooShort, BookDamaged, BookCount, BookRow, Disorder, CellWindow, CellRecord, CellLength, SegmentCount, SegmentRefused, SegmentDisagrees, TimberInput, Allowance}
use Rattle.basis.specs.Refusal.{number, Examined, nothing, unless, first}

pub number_pos : (r : Refusal) → 0 < number r
number_pos (SheetLength at) = lit< tt
number_pos (SheetEntry at) = lit< tt
number_pos (FieldRange at) = lit< tt
number_pos (Contradiction at) = lit< tt
number_pos (UnfitWall at) = lit< tt
number_pos (Damaged at) = lit< tt
number_pos (Trailing at) = lit< tt
number_pos (TooShort at) = lit< tt
number_pos (BookDamaged at) = lit< tt
number_pos (BookCount at) = lit< tt
number_pos (BookRow at) = lit< tt
number_pos (Disorder at) = lit< tt
number_pos (CellWindow at) = lit< tt
number_pos (CellRecord at) = lit< tt
number_pos (CellLength at) = lit< tt
number_pos (SegmentCount at) = lit< tt
number_pos (SegmentRefused at) = lit< tt
number_pos (SegmentDisagrees at) = lit< tt
number_pos (TimberInput at) = lit< tt
number_pos (Allowance at) = lit< tt

-- where two answer, the first refuses nothing and the second answers it
pub first_answers : {A : Type 0} (a : Examined) (rest : Result A Refusal) {x : A} → first a rest ≡ Ok x → (a ≡ nothing) × (rest ≡ Ok x)
first_answers (Ok none) rest e = (refl, e)
first_answers (Err r) rest e = absurd (cc)

-- where an examination and a value refuse, the examination does
pub first_refuses : {A : Type 0} (a : Examined) (x : A) {r : Refusal} → first a (Ok x) ≡ Err r → a ≡ Err r
first_refuses (Ok none) x e = absurd (cc)
first_refuses (Err s) x e = cc

-- where nothing is refused, neither refuses
pub first_nothing : (a b : Examined) → first a b ≡ nothing → (a ≡ nothing) × (b ≡ nothing)
first_nothing a b e = first_answers a b e

-- of three one after the other, it is the same which two are joined
pub first_first : {A : Type 0} (a b : Examined) (rest : Result A Refusal) → first (first a b) rest ≡ first a (first b rest)
first_first (Ok none) b rest = refl
first_first (Err r) b rest = refl

-- where nothing is refused, the test has passed
pub unless_pass : {A : Type 0} (b : Bool) (r : Refusal) (rest : Result A Refusal) (x : A) → unless b r rest ≡ Ok x → T b × (rest ≡ Ok x)
unless_pass true r rest x e = (tt, e)
unless_pass false r rest x e = absurd (cc)

-- the same as a test that refuses answers it
pub passed : {answer : Examined} {none : Unit {0}} (b : Bool) (r : Refusal) → answer ≡ unless b r nothing → answer ≡ Ok none → T b
passed true r e f = tt
passed false r e f = absurd (cc (e, f))

-- a chain goes on where its test passes and ends where it fails, with the test written out
pub unless_passes : {A : Type 0} (b : Bool) (r : Refusal) (rest : Result A Refusal) → b ≡ true → unless b r rest ≡ rest
unless_passes b r rest e = rw e refl

pub unless_fails : {A : Type 0} (b : Bool) (r : Refusal) (rest : Result A Refusal) → b ≡ false → unless b r rest ≡ Err r
unless_fails b r rest e = rw e refl

-- one chain in the place of another whose tests, refusals and rest are equal
pub unless_link : {A : Type 0} {c rest rest' : Result A Refusal} {r r' : Refusal} {b b' : Bool} → c ≡ unless b r rest → b ≡ b' → r ≡ r' → rest ≡ rest' → c ≡ unless b' r' rest'
unless_link e f g h = cc
