-- A list is its entries one by one.
-- Assumes nothing.
use mathlib.Core.Path.{◌≡◌, refl, ap, ◌∙◌}
use mathlib.Core.List.{List, [], ◌∷◌}
use Prim.Native.Nat.{ℕ, zero, suc, ◌+◌, ◌≤◌}
use native.Mathlib.Omega.{arith}
use lib.ListN.{length, get_or, take, drop, length-drop}
use lib.Seq.{drop-cons, take_all}

-- the n entries from i on, one by one
unfoldable pub entries : List ℕ → ℕ → ℕ → List ℕ
entries l i zero = []
entries l i (suc n) = get_or l i 0 ∷ entries l (suc i) n

-- the first n of those from i on
pub entries_take : (l : List ℕ) (n i : ℕ) → i + n ≤ length l → entries l i n ≡ take n (drop i l)
unfolding entries
entries_take l zero i h = refl
entries_take l (suc n) i h = ap (λ t. get_or l i 0 ∷ t) (entries_take l n (suc i) (omega arith)) ∙ rw (drop-cons l i 0 (omega arith)) refl

-- all of them
pub entries_all : (l : List ℕ) (n i : ℕ) → length l ≡ i + n → entries l i n ≡ drop i l
entries_all l n i e = entries_take l n i (omega arith) ∙ take_all n (drop i l) (rw length-drop (omega arith))
