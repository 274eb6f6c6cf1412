-- Numbers of 32 bits stay so where a table is turned, and those of rows that stand are.
-- Assumes nothing.
use Prim.Native.Nat.{ℕ, zero, suc, ◌+◌, ◌*◌, ◌^◌, ◌≤◌, ◌<◌}
use mathlib.Core.Path.{◌≡◌, refl, subst}
use mathlib.Core.List.{List, [], ◌∷◌, ◌++◌}
use native.Mathlib.Nat.{zero-add}
use native.Mathlib.Omega.{arith}
use lib.Dec.{lit<}
use lib.ListN.{length, get_or, length-take, length-drop}
use Rattle.groups.specs.Rows.{Narrow}
use Rattle.jobfile.specs.Kind.{scaffold}
use Rattle.jobfile.proofs.Sizes.{narrow}
use Rattle.book.specs.Columns.{series, joined, across, turned}
use Rattle.book.specs.Book.{row}
use Rattle.book.specs.Rows.{AllStand}
use Rattle.book.proofs.Columns.{joined_parts}

narrow_at : (ns : List ℕ) (i : ℕ) → Narrow ns → get_or ns i 0 < 2 ^ 32
narrow_at [] i w = lit< tt
narrow_at (n ∷ ns) zero w = w.0
narrow_at (n ∷ ns) (suc i) w = narrow_at ns i w.1

narrow_append : (xs ys : List ℕ) → Narrow xs → Narrow ys → Narrow (xs ++ ys)
narrow_append [] ys v w = w
narrow_append (x ∷ xs) ys v w = (v.0, narrow_append xs ys v.1 w)

narrow_series : (f : ℕ → ℕ) (n i : ℕ) → ((j : ℕ) → f j < 2 ^ 32) → Narrow (series f i n)
unfolding series
narrow_series f zero i h = tt
narrow_series f (suc n) i h = (h i, narrow_series f n (suc i) h)

narrow_joined : (f : ℕ → List ℕ) (n i : ℕ) → ((j : ℕ) → j < i + n → Narrow (f j)) → Narrow (joined f i n)
unfolding joined
narrow_joined f zero i h = tt
narrow_joined f (suc n) i h =
    narrow_append (f i) (joined f (suc i) n) (h i (omega arith)) (narrow_joined f n (suc i) (λ j l. h j (omega arith)))

pub turned_narrow : (a b : ℕ) (xs : List ℕ) → Narrow xs → Narrow (turned a b xs)
unfolding turned across
turned_narrow a b xs w =
    narrow_joined (across a b xs) a 0 (λ i l. narrow_series (λ j. get_or xs (a * j + i) 0) b 0 (λ j. narrow_at xs (a * j + i) w))

-- rows one after the other, and a row's length
pub rows_joined : (n : ℕ) (rows : List ℕ) → length rows ≡ 25 * n → joined (row rows) 0 n ≡ rows
unfolding row
rows_joined n rows e = joined_parts (row rows) 25 rows n 0 (rw zero-add e) (λ j a b. refl)

pub row_long : (n : ℕ) (rows : List ℕ) (r : ℕ) → 25 * n ≤ length rows → r < n → length (row rows r) ≡ 25
unfolding row
row_long n rows r e h = rw (length-take, length-drop) (omega arith)

pub stand_narrow : (n : ℕ) (rows : List ℕ) → length rows ≡ 25 * n → AllStand n rows → Narrow rows
stand_narrow n rows e s =
    subst Narrow (rows_joined n rows e) (narrow_joined (row rows) n 0 (λ r l. narrow scaffold (row rows r) (row_long n rows r (omega (arith, e)) (omega arith)) (s r (omega arith))))
