-- Laws of places: they add up, the numbers stand at them, and none is beyond the end.
-- Assumes nothing.
use Rattle.std.specs.Prelude.{Some, None}
use Prim.Native.Nat.{ℕ, zero, suc, ◌+◌, ◌-◌, ◌*◌, ◌≤◌, ◌<◌}
use mathlib.Core.Path.{◌≡◌, ◌∙◌, refl, sym, ap}
use mathlib.Core.List.{List}
use native.Mathlib.Nat.{add-zero, add_assoc}
use native.Mathlib.Numerals.{add-one}
use native.Mathlib.Omega.{arith}
use lib.Dec.{T, ltb→lt}
use lib.ListN.{length, drop, get_or, length-drop}
use lib.Seq.{drop-drop}
use Rattle.basis.specs.Refusal.{nothing}
use Rattle.basis.proofs.Tests.{both_left, both_right}
use Rattle.groups.specs.Decode.{decode}
use Rattle.groups.specs.Numbers.{damage, values, bytes_of, offset_after}
use Rattle.groups.proofs.Decode.{decoded, decode_one, decode_within}
use Rattle.groups.proofs.Places.{values_at, offset_add, offset_stays, damage_add}
use Rattle.groups.proofs.Reading.{damage_here}
use Rattle.book.specs.Columns.{series, across}
use Rattle.book.proofs.Columns.{series_same, series_map, below}
use Rattle.bookfile.specs.Places.{single, value_at, next_at, place_of, Sound, starts, row_at, moved, moved_by, row_after}

-- a number of those that start at k, by its place
pub value_placed : (book : List ℕ) (k m j : ℕ) → j < m → value_at book (place_of book k j) ≡ get_or (values m (drop k book)) j 0
unfolding value_at place_of
value_placed book k m j h = rw (values_at m j (drop k book) h, drop-drop)

-- m numbers on
pub place_add : (book : List ℕ) (k j m : ℕ) → place_of book (place_of book k j) m ≡ place_of book k (j + m)
unfolding place_of
place_add book k j m = rw (offset_add j m (drop k book), drop-drop, add_assoc)

pub place_none : (book : List ℕ) (k : ℕ) → k ≡ place_of book k 0
unfolding place_of offset_after
place_none book k = rw add-zero

one : (book : List ℕ) (at : ℕ) → next_at book at ≡ place_of book at 1
unfolding next_at place_of offset_after
one book at = rw add-zero

pub place_next : (book : List ℕ) (k j : ℕ) → next_at book (place_of book k j) ≡ place_of book k (j + 1)
place_next book k j = one book (place_of book k j) ∙ place_add book k j 1

pub places_after : (book : List ℕ) (k n r : ℕ) → moved_by book (starts book k n) r ≡ series (λ c. place_of book k (n * c + r)) 0 25
unfolding starts moved_by moved
places_after book k n zero = series_same (λ c. place_of book k (n * c)) (λ c. place_of book k (n * c + 0)) 25 0 (λ j a b. rw add-zero)
places_after book k n (suc r) =
    rw (places_after book k n r)
    (series_map (next_at book) (λ c. place_of book k (n * c + r)) 25 0
    ∙ series_same (λ c. next_at book (place_of book k (n * c + r))) (λ c. place_of book k (n * c + suc r)) 25 0
    (λ j a b. let e : n * j + r + 1 ≡ n * j + suc r = omega arith in place_next book k (n * j + r) ∙ ap (place_of book k) e))

-- the row at the places of the columns' numbers r is the row r of the columns
pub row_placed : (book : List ℕ) (k n r : ℕ) → r < n → row_after book (starts book k n) r ≡ across n 25 (values (25 * n) (drop k book)) r
unfolding row_after row_at across
row_placed book k n r h =
    rw (places_after book k n r)
    (series_map (value_at book) (λ c. place_of book k (n * c + r)) 25 0
    ∙ series_same (λ c. value_at book (place_of book k (n * c + r))) (λ c. get_or (values (25 * n) (drop k book)) (n * c + r) 0) 25 0
    (λ c a b. value_placed book k (25 * n) (n * c + r) (let m = below n 25 r c h (omega arith) in omega (arith, m))))

bytes_fit : (bs : List ℕ) → bytes_of (decode bs) ≤ length bs
unfolding bytes_of
bytes_fit bs = decoded (decode bs) (λ v k e. rw e (decode_within bs v k e).ends) (λ e. rw e (omega arith))

offset_fits : (n : ℕ) (bs : List ℕ) → offset_after n bs ≤ length bs
unfolding offset_after
offset_fits zero bs = omega arith
offset_fits (suc n) bs = omega (arith, bytes_fit bs, offset_fits n (drop (bytes_of (decode bs)) bs), length-drop (bytes_of (decode bs)) bs)

pub place_fits : (book : List ℕ) (k n : ℕ) → k ≤ length book → place_of book k n ≤ length book
unfolding place_of
place_fits book k n h = omega (arith, offset_fits n (drop k book), length-drop k book)

-- numbers of one byte each
pub single_placed : (book : List ℕ) (at n : ℕ) → at + n ≤ length book → T (single book at n) → place_of book at n ≡ at + n
unfolding single
single_placed book at zero h t = sym (place_none book at) ∙ sym (add-zero at)
single_placed book at (suc n) h t =
    let e : place_of book at n ≡ at + n = single_placed book at n (omega arith) (both_left (single book at n) _ t) in
    let l : get_or book (at + n) 0 < 128 = ltb→lt (get_or book (at + n) 0) 128 (both_right (single book at n) _ t) in
    let s : at + n + 1 ≡ at + suc n = omega arith in
    rw (← add-one) (sym (place_next book at n) ∙ ap (next_at book) e ∙ byte (at + n) (omega arith) l ∙ s ∙ ap (λ (x : ℕ). at + x) (sym (add-one n)))
  where
    byte : (p : ℕ) → p < length book → get_or book p 0 < 128 → next_at book p ≡ p + 1
    byte p u v = unfold next_at in unfold bytes_of in rw (decode_one book p u v)

-- at a damaged number the place stays
stays : (book : List ℕ) (at m : ℕ) → decode (drop at book) ≡ None → place_of book at m ≡ at
unfolding place_of
stays book at m e = rw (offset_stays m (drop at book) e, add-zero)

pub place_stays : (book : List ℕ) (k j n at : ℕ) → at ≡ place_of book k j → decode (drop at book) ≡ None → j ≤ n → at ≡ place_of book k n
place_stays book k j n at p e h =
    let s : j + (n - j) ≡ n = omega arith in
    sym (stays book at (n - j) e) ∙ ap (λ (x : ℕ). place_of book x (n - j)) p ∙ place_add book k j (n - j) ∙ ap (place_of book k) s

-- one number on
pub place_on : (book : List ℕ) (k j at v m : ℕ) → at ≡ place_of book k j → decode (drop at book) ≡ Some (v, m) → at + m ≡ place_of book k (j + 1)
place_on book k j at v m p e = here ∙ ap (next_at book) p ∙ place_next book k j
  where
    here : at + m ≡ next_at book at
    here = unfold next_at in unfold bytes_of in rw e

-- where nothing is refused of some numbers none is damaged
pub undamaged_sound : (book : List ℕ) (k n : ℕ) → damage n k (drop k book) ≡ nothing → Sound book k n
unfolding place_of
undamaged_sound book k n z j h e =
    let s : n ≡ j + suc (n - suc j) = omega arith in
    let d = damage_add j (suc (n - suc j)) k (drop k book) (omega arith) in
    let f = damage_here (n - suc j) (k + offset_after j (drop k book)) (drop (offset_after j (drop k book)) (drop k book)) (ap decode (drop-drop (offset_after j (drop k book)) k book) ∙ e) in
    let g = sym (rw s at z) ∙ d ∙ f in absurd (cc)

-- so is none of a column's
pub sound_column : (book : List ℕ) (k n c at : ℕ) → Sound book k (25 * n) → at ≡ place_of book k (n * c) → c < 25 → Sound book at n
sound_column book k n c at s p h j u e =
    let m = below n 25 j c u h in
    let q : place_of book at j ≡ place_of book k (n * c + j) = ap (λ (x : ℕ). place_of book x j) p ∙ place_add book k (n * c) j in
    s (n * c + j) (omega (arith, m)) (rw q at e)

-- what is refused of the last of 25 columns, at its place, is refused of all
pub damage_last : (book : List ℕ) (k n : ℕ) → damage n (place_of book k (n * 24)) (drop (place_of book k (n * 24)) book) ≡ damage (25 * n) k (drop k book)
unfolding place_of offset_after
damage_last book k zero = rw add-zero refl
damage_last book k (suc n) =
    let s : 25 * suc n ≡ suc n * 24 + suc n = omega arith in
    rw s (rw drop-drop at (sym (damage_add (suc n * 24) (suc n) k (drop k book) (omega arith))))
