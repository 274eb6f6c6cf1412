-- Refusals 1 and 2: a sheet isn't 251 entries; an entry is 0, above 1,000, above the one before it, or at 250 and below 117.
-- Assumes nothing.
use Rattle.std.specs.Prelude.{ℕ, ◌-◌, Bool, not, ◌&&◌, ◌||◌, cond, List, Option, Some, None, Err, length, get_or, leb, eqb}
use Rattle.basis.specs.Range.{within}
use Rattle.basis.specs.Search.{first_fail}
use Rattle.basis.specs.Refusal.{Examined, unless, nothing}
use Rattle.basis.specs.declared.Refusal.TheVariants.{SheetLength, SheetEntry}

-- the entry e at place k stands: from 1 to 1,000, no greater than the entry d before it, and at 250 at least 117
abbrev pub stands : ℕ → ℕ → ℕ → Bool
stands e d k = within 1 1000 e && ((eqb k 0 || leb e d) && (not (eqb k 250) || leb 117 e))

unfoldable pub entry_stands : List ℕ → ℕ → Bool
entry_stands sheet k = stands (get_or sheet k 0) (get_or sheet (k - 1) 0) k

-- the first entry that does not stand; 251 where each does
unfoldable pub fault : List ℕ → ℕ
fault sheet = first_fail (entry_stands sheet) 0 251

-- the same, if any
unfoldable pub first_fault : List ℕ → Option ℕ
first_fault sheet = cond (eqb (fault sheet) 251) None (Some (fault sheet))

-- 2 of an entry that does not stand
abbrev pub entry_refusal : Option ℕ → Examined
entry_refusal None = nothing
entry_refusal (Some k) = Err (SheetEntry k)

abbrev pub examination : List ℕ → Examined
examination sheet = unless (eqb (length sheet) 251) (SheetLength (length sheet)) (entry_refusal (first_fault sheet))
