-- How many bytes a table's numbers take: as many by columns as by rows.
-- Assumes nothing.
use Prim.Native.Nat.{ℕ, zero, suc, ◌+◌, ◌*◌, ◌≤◌, ◌<◌}
use mathlib.Core.Path.{◌≡◌, ◌∙◌, refl, sym, ap, ap₂}
use mathlib.Core.List.{List, [], ◌∷◌, ◌++◌, append_assoc}
use native.Mathlib.Nat.{mul-zero}
use native.Mathlib.Omega.{arith}
use lib.ListN.{length, get_or, length-append}
use Rattle.groups.specs.Encode.{encode, encode_all}
use Rattle.book.specs.Columns.{series, joined, across, turned}
use Rattle.book.proofs.Columns.{joined_lines}

-- f i + f (i + 1) + ..: n of them
unfoldable pub sum : (ℕ → ℕ) → ℕ → ℕ → ℕ
sum f i zero = 0
sum f i (suc n) = f i + sum f (suc i) n

sum_same : (f g : ℕ → ℕ) (n i : ℕ) → ((j : ℕ) → i ≤ j → j < i + n → f j ≡ g j) → sum f i n ≡ sum g i n
unfolding sum
sum_same f g zero i h = refl
sum_same f g (suc n) i h = ap₂ ◌+◌ (h i (omega arith) (omega arith)) (sum_same f g n (suc i) (λ j a b. h j (omega arith) (omega arith)))

pub sum_most : (f : ℕ → ℕ) (m n i : ℕ) → ((j : ℕ) → i ≤ j → j < i + n → f j ≤ m) → sum f i n ≤ m * n
unfolding sum
sum_most f m zero i h = omega arith
sum_most f m (suc n) i h = omega (arith, h i (omega arith) (omega arith), sum_most f m n (suc i) (λ j a b. h j (omega arith) (omega arith)))

pub sum_even : (f : ℕ → ℕ) (m n i : ℕ) → ((j : ℕ) → i ≤ j → j < i + n → f j ≡ m) → sum f i n ≡ m * n
unfolding sum
sum_even f m zero i h = rw mul-zero
sum_even f m (suc n) i h = omega (arith, h i (omega arith) (omega arith), sum_even f m n (suc i) (λ j a b. h j (omega arith) (omega arith)))

sum_none : (n i : ℕ) → sum (λ j. 0) i n ≡ 0
unfolding sum
sum_none zero i = refl
sum_none (suc n) i = omega (arith, sum_none n (suc i))

sum_add : (f g : ℕ → ℕ) (n i : ℕ) → sum (λ j. f j + g j) i n ≡ sum f i n + sum g i n
unfolding sum
sum_add f g zero i = refl
sum_add f g (suc n) i = omega (arith, sum_add f g n (suc i))

-- line by line, or across the lines
sum_across : (f : ℕ → ℕ → ℕ) (m a n b : ℕ) → sum (λ i. sum (f i) b n) a m ≡ sum (λ j. sum (λ i. f i j) a m) b n
unfolding sum
sum_across f zero a n b = sym (sum_none n b)
sum_across f (suc m) a n b =
    ap (λ (x : ℕ). sum (f a) b n + x) (sum_across f m (suc a) n b) ∙ sym (sum_add (f a) (λ j. sum (λ i. f i j) (suc a) m) n b)

-- the bytes of joined numbers, one after the other
all_append : (xs ys : List ℕ) → encode_all (xs ++ ys) ≡ encode_all xs ++ encode_all ys
unfolding encode_all
all_append [] ys = refl
all_append (x ∷ xs) ys = rw (all_append xs ys, append_assoc)

pub all_series : (f : ℕ → ℕ) (n i : ℕ) → encode_all (series f i n) ≡ joined (λ j. encode (f j)) i n
unfolding encode_all series joined
all_series f zero i = refl
all_series f (suc n) i = ap (λ (t : List ℕ). encode (f i) ++ t) (all_series f n (suc i))

pub all_joined : (f : ℕ → List ℕ) (n i : ℕ) → encode_all (joined f i n) ≡ joined (λ j. encode_all (f j)) i n
unfolding encode_all joined
all_joined f zero i = refl
all_joined f (suc n) i = all_append (f i) (joined f (suc i) n) ∙ ap (λ (t : List ℕ). encode_all (f i) ++ t) (all_joined f n (suc i))

joined_length : (f : ℕ → List ℕ) (n i : ℕ) → length (joined f i n) ≡ sum (λ j. length (f j)) i n
unfolding joined sum
joined_length f zero i = refl
joined_length f (suc n) i = rw length-append (ap (λ (x : ℕ). length (f i) + x) (joined_length f n (suc i)))

series_bytes : (f : ℕ → ℕ) (n i : ℕ) → length (encode_all (series f i n)) ≡ sum (λ j. length (encode (f j))) i n
series_bytes f n i = ap length (all_series f n i) ∙ joined_length _ n i

pub joined_bytes : (f : ℕ → List ℕ) (n i : ℕ) → length (encode_all (joined f i n)) ≡ sum (λ j. length (encode_all (f j))) i n
joined_bytes f n i = ap length (all_joined f n i) ∙ joined_length _ n i

-- a turned table has as many bytes
pub turned_bytes : (a b : ℕ) (xs : List ℕ) → length xs ≡ a * b → length (encode_all (turned a b xs)) ≡ length (encode_all xs)
unfolding turned across
turned_bytes a b xs e =
    joined_bytes (across a b xs) a 0 ∙ sum_same _ _ a 0 (λ i p q. series_bytes (λ j. get_or xs (a * j + i) 0) b 0) ∙ sum_across (λ i j. length (encode (get_or xs (a * j + i) 0))) a 0 b 0
    ∙ sum_same _ _ b 0 (λ j p q. sym (series_bytes (λ i. get_or xs (a * j + i) 0) a 0)) ∙ sym (joined_bytes (λ j. series (λ i. get_or xs (a * j + i) 0) 0 a) b 0)
    ∙ ap (λ (t : List ℕ). length (encode_all t)) (joined_lines a b xs e)
