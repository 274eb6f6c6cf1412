-- Laws of rows of 25 numbers: where the numbers of one stand among those of all, and the rows cut from some numbers.
-- Assumes nothing.
use Prim.Native.Nat.{ℕ, zero, suc, ◌+◌, ◌*◌, ◌<◌}
use mathlib.Core.Path.{◌≡◌, ◌∙◌, refl, sym, ap}
use mathlib.Core.Bool.{Bool}
use mathlib.Core.List.{List, [], ◌∷◌, ◌++◌}
use native.Mathlib.Omega.{arith}
use lib.ListN.{length, take, drop, get_or}
use lib.Seq.{take-add, take-append_seam, drop-append-add}
use Rattle.std.specs.Simd.{first_chunks}
use Rattle.basis.proofs.Searches.{first_fail_same}
use Rattle.groups.specs.Encode.{encode}
use Rattle.book.specs.Book.{row, good, good_at, first_bad}
use Rattle.book.proofs.Columns.{part_at}
use Rattle.book.proofs.Held.{row_take}
use Rattle.bookfile.specs.Pieces.{flat, entry_bytes}

-- each is of 25 numbers
abbrev pub Each : List (List ℕ) → Type 0
Each rows = (r : ℕ) → r < length rows → length (get_or rows r []) ≡ 25

pub flat_row : (rows : List (List ℕ)) (r : ℕ) → Each rows → r < length rows → row (flat rows) r ≡ get_or rows r []
unfolding row
flat_row [] r w h = absurd (omega arith)
flat_row (x ∷ rows) zero w h = rw (w 0 (omega arith)) at (take-append_seam x (flat rows))
flat_row (x ∷ rows) (suc r) w h =
    let s : 25 * suc r ≡ length x + 25 * r = omega (arith, w 0 (omega arith)) in
    rw (s, drop-append-add x (flat rows) (25 * r)) (flat_row rows r (λ i l. w (suc i) (omega arith)) (omega arith))

-- number c of row r
pub entry_is : (rows : List (List ℕ)) (c r : ℕ) → Each rows → r < length rows → c < 25 → encode (get_or (get_or rows r []) c 0) ≡ entry_bytes (flat rows) c r
unfolding entry_bytes row
entry_is rows c r w h l = ap (λ (t : List ℕ). encode (get_or t c 0)) (sym (flat_row rows r w h)) ∙ ap encode (part_at (flat rows) 25 (25 * r) c l)

-- whether row r is good
pub row_good : (rows : List (List ℕ)) (r : ℕ) {b : Bool} → Each rows → r < length rows → b ≡ good (get_or rows r []) → b ≡ good_at (flat rows) r
unfolding good_at
row_good rows r w h e = e ∙ ap good (sym (flat_row rows r w h))

-- the rows cut from some numbers have the first of them
pub flat_chunks : (n : ℕ) (numbers : List ℕ) → flat (first_chunks 25 n numbers) ≡ take (25 * n) numbers
flat_chunks zero numbers = refl
flat_chunks (suc n) numbers =
    let s : 25 + 25 * n ≡ 25 * suc n = omega arith in
    ap (λ (t : List ℕ). take 25 numbers ++ t) (flat_chunks n (drop 25 numbers)) ∙ sym (take-add 25 (25 * n) numbers) ∙ ap (λ (m : ℕ). take m numbers) s

-- and of them the same is the lowest bad one
pub bad_take : (n : ℕ) (rows : List ℕ) → first_bad n (take (25 * n) rows) ≡ first_bad n rows
unfolding first_bad good_at
bad_take n rows = first_fail_same (λ r. good (row (take (25 * n) rows) r)) (λ r. good (row rows r)) n 0 (λ r a b. ap good (row_take n rows r (omega arith)))
