-- Laws of rows that are filled column by column.
-- Assumes nothing.
use Prim.Native.Nat.{ℕ, ◌+◌, ◌*◌, ◌/◌, ◌%◌, ◌≤◌, ◌<◌}
use mathlib.Core.Path.{◌≡◌, ◌∙◌, refl, sym, ap}
use mathlib.Core.List.{List, ◌++◌}
use mathlib.Core.Logic.{⊎_elim}
use native.Mathlib.Nat.{eq-or-lt_of_le}
use native.Mathlib.Omega.{arith}
use lib.ListN.{length, take, drop, get_or, set, length-set, take-append-drop}
use lib.Seq.{drop-drop, drop-set-lt, get_or-set_same, get_or-set_other, get_or-take, length-take-le, ext_get_or}
use Rattle.groups.specs.Numbers.{values}
use Rattle.book.specs.Columns.{turned}
use Rattle.book.specs.Book.{rows_of}
use Rattle.book.proofs.Columns.{turned_at, turned_long, below}
use Rattle.bookfile.specs.Places.{place_of, value_at, PutColumn}
use Rattle.bookfile.proofs.Numbers.{value_placed, place_add, place_none, sound_column}
use Rattle.bookfile.proofs.Steps.{place_skip}

pub put_none : (c : ℕ) (numbers out : List ℕ) → PutColumn 0 c numbers out out
put_none c numbers out = record { long = refl; here = λ r h. absurd (omega arith); others = λ k h. refl; rest = refl }

-- one row more
pub put_next : (r c : ℕ) (numbers before out : List ℕ) (x : ℕ) → PutColumn r c numbers before out → c < 25 → 25 * r + c < length out → x ≡ get_or numbers r 0
    → PutColumn (r + 1) c numbers before (set out (25 * r + c) x)
put_next r c numbers before out x p h l e =
    record {
      long = length-set out (25 * r + c) x ∙ p.long;
      here = λ i u. ⊎_elim (λ z. let y : i ≡ r = omega arith in rw y (get_or-set_same out (25 * r + c) x 0 l ∙ e)) (λ z. get_or-set_other out (25 * r + c) (25 * i + c) x 0 (λ y. omega arith) ∙ p.here i (omega arith))
          (eq-or-lt_of_le u);
      others = λ k u. get_or-set_other out (25 * r + c) k x 0 (u r) ∙ p.others k u;
      rest = drop-set-lt (25 * (r + 1)) out (25 * r + c) x (omega arith) ∙ rested;
    }
  where
    rested : drop (25 * (r + 1)) out ≡ drop (25 * (r + 1)) before
    rested =
        let s : 25 * (r + 1) ≡ 25 * r + 25 = omega arith in
        rw s (sym (drop-drop 25 (25 * r) out) ∙ ap (λ (t : List ℕ). drop 25 t) p.rest ∙ drop-drop 25 (25 * r) before)

-- the first c numbers of n rows are those of the columns
pub record Filled (n c : ℕ) (numbers before out : List ℕ) : Type 0 where
  pub long : length out ≡ length before
  pub here : (i j : ℕ) → i < n → j < c → get_or out (25 * i + j) 0 ≡ get_or numbers (n * j + i) 0
  pub rest : drop (25 * n) out ≡ drop (25 * n) before

pub filled_none : (n : ℕ) (numbers out : List ℕ) → Filled n 0 numbers out out
filled_none n numbers out = record { long = refl; here = λ i j u v. absurd (omega arith); rest = refl }

pub filled_next : (n c : ℕ) (numbers column before out next : List ℕ) → Filled n c numbers before out → c < 25 → ((i : ℕ) → i < n → get_or column i 0 ≡ get_or numbers (n * c + i) 0)
    → PutColumn n c column out next → Filled n (c + 1) numbers before next
filled_next n c numbers column before out next f h e p =
    record {
      long = p.long ∙ f.long;
      here = λ i j u v. ⊎_elim (λ z. let y : j ≡ c = omega arith in rw y (p.here i u ∙ e i u)) (λ z. p.others (25 * i + j) (λ r y. omega arith) ∙ f.here i j u (omega arith))
          (eq-or-lt_of_le v);
      rest = p.rest ∙ f.rest;
    }

pub filled_all : (n : ℕ) (numbers before out : List ℕ) → Filled n 25 numbers before out → 25 * n ≤ length before → out ≡ rows_of n numbers ++ drop (25 * n) before
unfolding rows_of
filled_all n numbers before out f l =
    sym (take-append-drop (25 * n) out) ∙ ap (λ (t : List ℕ). t ++ drop (25 * n) out) same ∙ ap (λ (t : List ℕ). turned n 25 numbers ++ t) f.rest
  where
    taken : length (take (25 * n) out) ≡ 25 * n
    taken = length-take-le (25 * n) out (omega (arith, f.long))

    at : (k : ℕ) → k < 25 * n → get_or out k 0 ≡ get_or (turned n 25 numbers) k 0
    at k u =
        let s : 25 * (k / 25) + k % 25 ≡ k = omega arith in
        rw s at (f.here (k / 25) (k % 25) (omega arith) (omega arith) ∙ sym (turned_at n 25 numbers (k / 25) (k % 25) (omega arith) (omega arith)))

    same : take (25 * n) out ≡ turned n 25 numbers
    same = ext_get_or 0 (take (25 * n) out) (turned n 25 numbers) (taken ∙ sym (turned_long n 25 numbers)) (λ k u. let v : k < 25 * n = omega (arith, taken) in get_or-take (25 * n) out k 0 v ∙ at k v)

-- the numbers of column c
pub column_numbers : (book : List ℕ) (k n c at : ℕ) → at ≡ place_of book k (n * c) → c < 25 → (i : ℕ) → i < n → get_or (values n (drop at book)) i 0 ≡ get_or (values (25 * n) (drop k book)) (n * c + i) 0
column_numbers book k n c at e h i u =
    let m = below n 25 i c u h in
    sym (value_placed book at n i u) ∙ ap (value_at book) (ap (λ (x : ℕ). place_of book x i) e ∙ place_add book k (n * c) i) ∙ value_placed book k (25 * n) (n * c + i) (omega (arith, m))

-- what the loop over the columns is told
pub ruleset column_by_column = (place_none, sound_column, place_skip, filled_none, filled_next, filled_all, column_numbers)
