-- Laws of series, of joined lists, and of turning a table.
-- Assumes nothing.
use Prim.Native.Nat.{ℕ, zero, suc, ◌+◌, ◌-◌, ◌*◌, ◌≤◌, ◌<◌}
use mathlib.Core.Path.{◌≡◌, ◌∙◌, refl, sym, ap, ap₂}
use mathlib.Core.List.{List, ◌∷◌, ◌++◌, map}
use native.Mathlib.Nat.{add-zero, zero-add, mul-zero, mul-le-mul_left}
use native.Mathlib.Omega.{arith}
use lib.ListN.{length, take, drop, get_or, length-append, take-append-drop, drop_of_length-le}
use lib.Seq.{drop-cons, drop-drop, drop-append_seam, take-append_seam, get_or-drop}
use Rattle.book.specs.Columns.{series, joined, across, turned}

pub series_long : (f : ℕ → ℕ) (i n : ℕ) → length (series f i n) ≡ n
unfolding series
series_long f i zero = refl
series_long f i (suc n) = ap suc (series_long f (suc i) n)

pub series_at : (f : ℕ → ℕ) (i n j : ℕ) → j < n → get_or (series f i n) j 0 ≡ f (i + j)
unfolding series
series_at f i zero j h = absurd (omega arith)
series_at f i (suc n) zero h = rw add-zero
series_at f i (suc n) (suc j) h = let e : suc i + j ≡ i + suc j = omega arith in series_at f (suc i) n j (omega arith) ∙ ap f e

-- series of the same numbers are the same
pub series_same : (f g : ℕ → ℕ) (n i : ℕ) → ((j : ℕ) → i ≤ j → j < i + n → f j ≡ g j) → series f i n ≡ series g i n
unfolding series
series_same f g zero i h = refl
series_same f g (suc n) i h =
    ap₂ (λ (x : ℕ) (t : List ℕ). x ∷ t) (h i (omega arith) (omega arith)) (series_same f g n (suc i) (λ j a b. h j (omega arith) (omega arith)))

pub series_map : (g : ℕ → ℕ) (f : ℕ → ℕ) (n i : ℕ) → map g (series f i n) ≡ series (λ j. g (f j)) i n
unfolding series
series_map g f zero i = refl
series_map g f (suc n) i = ap (λ (t : List ℕ). g (f i) ∷ t) (series_map g f n (suc i))

-- a series of the elements from a on is a part of the list
pub series_part : (xs : List ℕ) (a n i : ℕ) → a + i + n ≤ length xs → series (λ j. get_or xs (a + j) 0) i n ≡ take n (drop (a + i) xs)
unfolding series
series_part xs a zero i h = refl
series_part xs a (suc n) i h =
    let e : a + suc i ≡ suc (a + i) = omega arith in
    let l : a + i < length xs = omega arith in
    rw (drop-cons xs (a + i) 0 l) (ap (λ (t : List ℕ). get_or xs (a + i) 0 ∷ t) (rw e at (series_part xs a n (suc i) (omega arith))))

-- lists of w elements each
pub joined_long : (f : ℕ → List ℕ) (w : ℕ) → ((i : ℕ) → length (f i) ≡ w) → (n i : ℕ) → length (joined f i n) ≡ w * n
unfolding joined
joined_long f w h zero i = rw mul-zero
joined_long f w h (suc n) i = rw (length-append, h i, joined_long f w h n (suc i)) (omega arith)

-- what is left after the first j of n lists
pub joined_drop : (f : ℕ → List ℕ) (w : ℕ) → ((i : ℕ) → length (f i) ≡ w) → (j n i : ℕ) → j ≤ n → drop (w * j) (joined f i n) ≡ joined f (i + j) (n - j)
unfolding joined
joined_drop f w h zero n i l = let e : n - 0 ≡ n = omega arith in rw (mul-zero, add-zero, e)
joined_drop f w h (suc j) zero i l = absurd (omega arith)
joined_drop f w h (suc j) (suc n) i l =
    let e : w * suc j ≡ w + w * j = omega arith in
    let d : drop w (f i ++ joined f (suc i) n) ≡ joined f (suc i) n = rw h at (drop-append_seam (f i) (joined f (suc i) n)) in
    let s : suc i + j ≡ i + suc j = omega arith in
    let m : suc n - suc j ≡ n - j = omega arith in
    rw (e, ← drop-drop, d, m, ← s) (joined_drop f w h j n (suc i) (omega arith))

pub joined_same : (f g : ℕ → List ℕ) (n i : ℕ) → ((j : ℕ) → i ≤ j → j < i + n → f j ≡ g j) → joined f i n ≡ joined g i n
unfolding joined
joined_same f g zero i h = refl
joined_same f g (suc n) i h =
    ap₂ (λ (x t : List ℕ). x ++ t) (h i (omega arith) (omega arith)) (joined_same f g n (suc i) (λ j a b. h j (omega arith) (omega arith)))

-- lists that are the parts of xs, w elements each, one after the other
pub joined_parts : (f : ℕ → List ℕ) (w : ℕ) (xs : List ℕ) (n i : ℕ) → length xs ≡ w * (i + n)
    → ((j : ℕ) → i ≤ j → j < i + n → f j ≡ take w (drop (w * j) xs)) → joined f i n ≡ drop (w * i) xs
unfolding joined
joined_parts f w xs zero i e h = sym (drop_of_length-le xs {i = w * i} (omega (arith, rw add-zero at e)))
joined_parts f w xs (suc n) i e h =
    let s : i + suc n ≡ suc i + n = omega arith in
    let p : w * suc i ≡ w * i + w = omega arith in
    rw (h i (omega arith) (omega arith), joined_parts f w xs n (suc i) (rw s at e) (λ j a b. h j (omega arith) (omega arith)), p, ← drop-drop)
    (take-append-drop w (drop (w * i) xs))

-- the part j of joined lists
pub joined_part : (f : ℕ → List ℕ) (w : ℕ) → ((i : ℕ) → length (f i) ≡ w) → (n j : ℕ) → j < n → take w (drop (w * j) (joined f 0 n)) ≡ f j
unfolding joined
joined_part f w h n j l =
    let e : n - j ≡ suc (n - suc j) = omega arith in
    let z : 0 + j ≡ j = omega arith in
    rw (joined_drop f w h j n 0 (omega arith), e, z) (rw h at (take-append_seam (f j) (joined f (suc j) (n - suc j))))

-- a part of a list, by index
pub part_at : (xs : List ℕ) (w a j : ℕ) → j < w → get_or (take w (drop a xs)) j 0 ≡ get_or xs (a + j) 0
part_at xs w a j h = lib.Seq.get_or-take w (drop a xs) j 0 h ∙ get_or-drop a xs j 0

pub joined_at : (f : ℕ → List ℕ) (w : ℕ) → ((i : ℕ) → length (f i) ≡ w) → (n i j : ℕ) → i < n → j < w → get_or (joined f 0 n) (w * i + j) 0 ≡ get_or (f i) j 0
joined_at f w h n i j l k = sym (part_at (joined f 0 n) w (w * i) j k) ∙ ap (λ (t : List ℕ). get_or t j 0) (joined_part f w h n i l)

-- an index of a table is below its length
pub below : (a b i j : ℕ) → i < a → j < b → a * j + i < a * b
below a b i j h k = let m : a * suc j ≤ a * b = mul-le-mul_left a k in omega (arith, m)

module _ (a b : ℕ) (xs : List ℕ) where
  pub across_long : (i : ℕ) → length (across a b xs i) ≡ b
  unfolding across
  across_long i = series_long _ 0 b

  pub turned_long : length (turned a b xs) ≡ b * a
  unfolding turned
  turned_long = joined_long (across a b xs) b across_long a 0

  pub turned_part : (i : ℕ) → i < a → take b (drop (b * i) (turned a b xs)) ≡ across a b xs i
  unfolding turned
  turned_part i h = joined_part (across a b xs) b across_long a i h

  -- number j of line i
  pub turned_at : (i j : ℕ) → i < a → j < b → get_or (turned a b xs) (b * i + j) 0 ≡ get_or xs (a * j + i) 0
  unfolding turned across
  turned_at i j h k = joined_at (across a b xs) b across_long a i j h k ∙ series_at (λ j. get_or xs (a * j + i) 0) 0 b j k ∙ ap (λ (x : ℕ). get_or xs (a * x + i) 0) (omega arith)

  -- only the table itself is turned
  pub turned_take : turned a b (take (a * b) xs) ≡ turned a b xs
  unfolding turned across
  turned_take = joined_same (across a b (take (a * b) xs)) (across a b xs) a 0 line
    where
      line : (i : ℕ) → 0 ≤ i → i < 0 + a → across a b (take (a * b) xs) i ≡ across a b xs i
      line i z h =
          series_same (λ j. get_or (take (a * b) xs) (a * j + i) 0) (λ j. get_or xs (a * j + i) 0) b 0
          (λ j u v. lib.Seq.get_or-take (a * b) xs (a * j + i) 0 (below a b i j (omega arith) (omega arith)))

  -- the numbers of line j, one after the other
  line_is : length xs ≡ a * b → (j : ℕ) → j < b → series (λ i. get_or xs (a * j + i) 0) 0 a ≡ take a (drop (a * j) xs)
  line_is e j h =
      let m : a * suc j ≤ a * b = mul-le-mul_left a h in
      series_part xs (a * j) a 0 (omega (arith, m)) ∙ rw add-zero

  -- the lines one after the other
  pub joined_lines : length xs ≡ a * b → joined (λ j. series (λ i. get_or xs (a * j + i) 0) 0 a) 0 b ≡ xs
  joined_lines e = joined_parts _ a xs b 0 (rw zero-add e) (λ j z h. line_is e j (omega arith)) ∙ rw mul-zero

  -- turning a table twice gives it back
  pub turned_twice : length xs ≡ a * b → turned b a (turned a b xs) ≡ xs
  unfolding turned across
  turned_twice e =
      joined_same (across b a (turned a b xs)) (λ j. series (λ i. get_or xs (a * j + i) 0) 0 a) b 0
      (λ j p q. series_same (λ i. get_or (turned a b xs) (b * i + j) 0) (λ i. get_or xs (a * j + i) 0) a 0 (λ i u v. turned_at i j (omega arith) (omega arith)))
      ∙ joined_lines e
