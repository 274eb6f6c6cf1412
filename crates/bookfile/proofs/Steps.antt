-- Laws of the reader's functions: a step from a number to the next, arrays filled from the front, and rows at 25 places.
-- Assumes nothing.
use Rattle.std.specs.Prelude.{Some, None, Err, unwrap_or}
use Rattle.std.proofs.lemmas.List.{get_or-map}
use Prim.Native.Nat.{ℕ, suc, ◌+◌, ◌-◌, ◌*◌, ◌%◌, ◌≤◌, ◌<◌}
use mathlib.Core.Path.{◌≡◌, ◌∙◌, refl, sym, ap}
use mathlib.Core.Bool.{Bool, true, false, ◌&&◌}
use mathlib.Core.List.{List, append-nil}
use native.Mathlib.Nat.{add-zero, mul-zero}
use native.Mathlib.Numerals.{add-one}
use native.Mathlib.Omega.{arith}
use lib.Dec.{ltb, leb, eqb}
use lib.ListN.{length, take, drop, get_or, set, length-map, length-take, drop_of_length-le, replicate, get_or-append}
use lib.Seq.{drop-drop, length-take-le, get_or-append-add, get_or-drop, get_or-take}
use Rattle.basis.specs.declared.Refusal.TheVariants.{Damaged, BookRow}
use Rattle.basis.specs.Refusal.{nothing}
use Rattle.basis.specs.Search.{first_fail}
use borrow.Author.Tests.{leb-true, leb-false, lt-ltb, eq-eqb, ne_eqb}
use Rattle.basis.proofs.Tests.{cases}
use Rattle.basis.proofs.Searches.{first_fail_found, first_fail_next, first_fail_end}
use Rattle.groups.specs.Decode.{last_group, extend, limit, decode}
use Rattle.groups.specs.Numbers.{extra, damage, values, value_of, bytes_of}
use Rattle.groups.proofs.Decode.{decoded, decode_end, decode_one, decode_more, later_end, later_last, number_ends}
use Rattle.groups.proofs.Front.{front, front_suc, front_all}
use Rattle.groups.proofs.Reading.{damage_next, damage_here}
use Rattle.book.specs.Book.{good, good_at, first_bad, bad_row}
use Rattle.book.proofs.Columns.{series_at, series_long}
use Rattle.bookfile.specs.Places.{single, value_at, next_at, step_at, place_of, starts, row_at, moved, moved_by, row_after, good_after, first_bad_at}
use Rattle.book.specs.Columns.{series}
use Rattle.bookfile.proofs.Numbers.{place_none, value_placed, place_add, place_next, place_on, place_fits}

pub step_number : (book : List ℕ) (at v k : ℕ) → decode (drop at book) ≡ Some (v, k) → record { value = v; next = at + k } ≡ step_at book at
unfolding step_at value_at next_at value_of bytes_of
step_number book at v k e = rw e

-- 0 and no bytes of a damaged one
module _ (book : List ℕ) (at : ℕ) {p : ℕ × ℕ} (e : p ≡ unwrap_or (decode (drop at book)) (0, 0)) where
  pub step_is : record { value = p.0; next = at + p.1 } ≡ step_at book at
  unfolding step_at value_at next_at value_of bytes_of
  step_is = rw e (decoded (decode (drop at book)) (λ v k f. rw f refl) (λ f. rw f refl))

  pub step_short : p.1 ≤ length book - at
  step_short = rw e (decoded (decode (drop at book)) (λ v k f. rw f (omega (arith, number_ends book at v k f))) (λ f. rw f (omega arith)))

-- where a number stands: at its first byte, at its second, and of two bytes
module _ (book : List ℕ) (at : ℕ) (s : decode (drop at book) ≡ None → ⊥) where
  pub stands_here : at < length book
  stands_here = cases (leb (length book) at) (λ t. absurd (s (decode_end book at (leb-true (length book) at t)))) (leb-false (length book) at)

  pub stands_next : 128 ≤ get_or book at 0 → at + 1 < length book
  unfolding extend limit
  stands_next l =
      cases (leb (length book) (at + 1))
      (λ t. absurd (s (decode_more book at stands_here l ∙ ap (λ d. limit (extend (get_or book at 0) d)) (later_end 3 book (at + 1) (leb-true (length book) (at + 1) t))))) (leb-false (length book) (at + 1))

  stands_two : 128 ≤ get_or book at 0 → get_or book (at + 1) 0 < 128 → decode (drop at book) ≡ Some (get_or book (at + 1) 0 * 128 + get_or book at 0 % 128, 2)
  unfolding extend limit last_group
  stands_two l u =
      let e = decode_more book at stands_here l ∙ ap (λ d. limit (extend (get_or book at 0) d)) (later_last 3 book (at + 1) (stands_next l) u) in
      cases (eqb (get_or book (at + 1) 0) 0) (λ t. absurd (s (e ∙ simp t)))
      (λ t. let v = lt-ltb (get_or book (at + 1) 0 * 128 + get_or book at 0 % 128) 4294967296 (omega arith) in e ∙ simp (t, v))

  -- the step from it, by its first bytes
  pub step_one : get_or book at 0 < 128 → step_at book at ≡ record { value = get_or book at 0; next = at + 1 }
  step_one l = sym (step_number book at (get_or book at 0) 1 (decode_one book at stands_here l))

  pub step_two : 128 ≤ get_or book at 0 → get_or book (at + 1) 0 < 128 → step_at book at ≡ record { value = get_or book (at + 1) 0 * 128 + get_or book at 0 % 128; next = at + 2 }
  step_two l u = sym (step_number book at _ 2 (stands_two l u))

pub step_value : (book : List ℕ) (k m j at : ℕ) → at ≡ place_of book k j → j < m → (step_at book at).value ≡ get_or (values m (drop k book)) j 0
unfolding step_at
step_value book k m j at e h = rw e (value_placed book k m j h)

pub step_place : (book : List ℕ) (k j at : ℕ) → at ≡ place_of book k j → (step_at book at).next ≡ place_of book k (j + 1)
unfolding step_at
step_place book k j at e = rw e (place_next book k j)

pub place_skip : (book : List ℕ) (k n c at : ℕ) → at ≡ place_of book k (n * c) → place_of book at n ≡ place_of book k (n * (c + 1))
place_skip book k n c at e =
    let s : n * (c + 1) ≡ n * c + n = omega arith in
    rw s (ap (λ (x : ℕ). place_of book x n) e ∙ place_add book k (n * c) n)

-- one byte more of those from a place on
pub single_next : (book : List ℕ) (at m i : ℕ) {a : Bool} → i < length (take m (drop at book)) → a ≡ single book at i
    → (a && ltb (get_or (take m (drop at book)) i 0) 128) ≡ single book at (i + 1)
unfolding single
single_next book at m i h e =
    let l : i < m = omega (arith, length-take m (drop at book)) in
    rw (add-one, get_or-take m (drop at book) i 0 l, get_or-drop at book i 0, e)

-- what is refused of the numbers left is what is refused of the whole
module _ (book : List ℕ) (count at done place : ℕ) (e : damage count at (drop at book) ≡ damage (count - done) place (drop place book)) where
  pub damage_ends : count ≤ done → extra place (drop place book) ≡ damage count at (drop at book)
  unfolding damage
  damage_ends h = let z : count - done ≡ 0 = omega arith in sym (rw z at e)

  pub damage_stops : done < count → decode (drop place book) ≡ None → Err (Damaged place) ≡ damage count at (drop at book)
  damage_stops h d =
      let z : count - done ≡ suc (count - (done + 1)) = omega arith in
      sym (rw z at e ∙ damage_here (count - (done + 1)) place (drop place book) d)

  pub damage_goes : (v k : ℕ) → done < count → decode (drop place book) ≡ Some (v, k)
      → damage count at (drop at book) ≡ damage (count - (done + 1)) (place + k) (drop (place + k) book)
  damage_goes v k h d =
      let z : count - done ≡ suc (count - (done + 1)) = omega arith in
      rw z at e ∙ damage_next (count - (done + 1)) place v k (drop place book) d ∙ rw drop-drop

-- ---- Arrays of 25, filled from the front

-- one entry more
pub filled : (d s t : List ℕ) (c x : ℕ) → t ≡ front d s c → length d ≡ 25 → length s ≡ 25 → c < 25 → get_or s c 0 ≡ x → set t c x ≡ front d s (c + 1)
filled d s t c x e l m h f = ap (λ (a : List ℕ). set a c x) e ∙ rw (← f, add-one) (front_suc d s c (omega (arith, l)) (omega (arith, m)))

-- the next one is still the old
pub unfilled : (d s : List ℕ) (c : ℕ) → length s ≡ 25 → c < 25 → get_or (front d s c) c 0 ≡ get_or d c 0
unfilled d s c m h =
    let l : length (take c s) ≡ c = length-take-le c s (omega (arith, m)) in
    ap (λ (x : ℕ). get_or (front d s c) x 0) (sym l ∙ sym (add-zero (length (take c s)))) ∙ get_or-append-add (take c s) (drop c d) 0 0 ∙ get_or-drop c d 0 0 ∙ ap (λ (x : ℕ). get_or d x 0) (add-zero c)

-- and the last
pub whole : (d s : List ℕ) (c : ℕ) → length d ≡ 25 → length s ≡ 25 → 25 ≤ c → c ≤ 25 → front d s c ≡ s
whole d s c l m h k =
    let f : length d ≤ length s = omega (arith, l, m) in
    front_all d s c (omega (arith, m)) ∙ rw (drop_of_length-le d f) (append-nil s)

pub starts_at : (book : List ℕ) (k n c : ℕ) → c < 25 → get_or (starts book k n) c 0 ≡ place_of book k (n * c)
unfolding starts
starts_at book k n c h = series_at (λ c. place_of book k (n * c)) 0 25 c h ∙ ap (λ (x : ℕ). place_of book k (n * x)) (omega arith)

pub starts_long : (book : List ℕ) (k n : ℕ) → length (starts book k n) ≡ 25
unfolding starts
starts_long book k n = series_long _ 0 25

-- all at the first, and the last of those found
pub starts_none : (book : List ℕ) (k n : ℕ) → replicate 25 k ≡ front (replicate 25 k) (starts book k n) 1
unfolding starts series
starts_none book k n = let e : place_of book k (n * 0) ≡ k = rw mul-zero (sym (place_none book k)) in rw e refl

pub starts_last : (book : List ℕ) (k n c : ℕ) {places : List ℕ} → places ≡ front (replicate 25 k) (starts book k n) (c + 1) → c < 25 → get_or places c 0 ≡ place_of book k (n * c)
starts_last book k n c e h =
    let s = starts book k n in
    let l : c < length (take (c + 1) s) = omega (arith, length-take (c + 1) s, starts_long book k n) in
    ap (λ (t : List ℕ). get_or t c 0) e ∙ get_or-append (take (c + 1) s) (drop (c + 1) (replicate 25 k)) 0 c l ∙ get_or-take (c + 1) s c 0 (omega arith) ∙ starts_at book k n c h

-- so each is within the book
pub starts_within : (book : List ℕ) (k n c : ℕ) {places : List ℕ} → places ≡ front (replicate 25 k) (starts book k n) (c + 1) → c < 25 → k ≤ length book → get_or places c 0 ≤ length book
starts_within book k n c e h l = rw (starts_last book k n c e h) (place_fits book k (n * c) l)

-- the row and the next places, at one of 25 places
module _ (book places : List ℕ) (e : length places ≡ 25) where
  pub row_long : length (row_at book places) ≡ 25
  unfolding row_at
  row_long = length-map places (value_at book) ∙ e

  pub moved_long : length (moved book places) ≡ 25
  unfolding moved
  moved_long = length-map places (next_at book) ∙ e

  pub row_at_lem : (c : ℕ) → c < 25 → get_or (row_at book places) c 0 ≡ (step_at book (get_or places c 0)).value
  unfolding row_at step_at
  row_at_lem c h = get_or-map (value_at book) places c 0 0 (omega (arith, e))

  pub moved_at : (c : ℕ) → c < 25 → get_or (moved book places) c 0 ≡ (step_at book (get_or places c 0)).next
  unfolding moved step_at
  moved_at c h = get_or-map (next_at book) places c 0 0 (omega (arith, e))

-- what the walk from number to number is told
pub ruleset walked = (number_ends, place_none, place_on, damage_stops, damage_goes, damage_ends)

-- what the loop over the columns is told
pub ruleset columns_started = (filled, whole, place_skip, starts_at, starts_long, starts_none, starts_last, starts_within)

-- what the loop over the 25 places is told
pub ruleset moved_on = (filled, unfilled, whole, row_long, moved_long, row_at_lem, moved_at)

-- ---- The lowest bad row

-- what is refused of it, where it is k
pub row_bad : {n r k : ℕ} → r < n → r ≡ k → Err (BookRow r) ≡ bad_row n k
row_bad {n} {r} h e = let f = ne_eqb r n (λ z. omega arith) in rw (← e, f) refl

pub rows_good : {n k : ℕ} → n ≡ k → nothing ≡ bad_row n k
rows_good {n} e = rw (← e, eq-eqb n n refl) refl

-- the first r rows are good, and the next stands at these places
pub record Scan (book places at : List ℕ) (n r : ℕ) : Type 0 where
  pub count : r ≤ n
  pub long : length at ≡ 25
  pub here : at ≡ moved_by book places r
  pub same : first_bad_at book places n ≡ first_fail (good_after book places) r (n - r)

pub scan_none : (book places : List ℕ) (n : ℕ) → length places ≡ 25 → Scan book places places n 0
unfolding moved_by first_bad_at
scan_none book places n l = record { count = omega arith; long = l; here = refl; same = let e : n ≡ n - 0 = omega arith in ap (first_fail (good_after book places) 0) e }

module _ (book places at : List ℕ) (n r : ℕ) (s : Scan book places at n r) where
  good_now : {row : List ℕ} {b : Bool} → row ≡ row_at book at → b ≡ good row → b ≡ good_after book places r
  unfolding good_after row_after
  good_now e f = f ∙ ap good (e ∙ ap (row_at book) s.here)

  pub scan_next : {row next : List ℕ} {b : Bool} → row ≡ row_at book at → next ≡ moved book at → b ≡ good row → b ≡ true → r < n → Scan book places next n (r + 1)
  unfolding moved_by
  scan_next e m f g h =
      record {
        count = omega arith;
        long = ap length m ∙ moved_long book at s.long;
        here = rw add-one (m ∙ ap (moved book) s.here);
        same = s.same ∙ first_fail_next (good_after book places) n r h (sym (good_now e f) ∙ g);
      }

  pub scan_found : {row : List ℕ} {b : Bool} → row ≡ row_at book at → b ≡ good row → b ≡ false → r < n → r ≡ first_bad_at book places n
  scan_found e f g h = sym (s.same ∙ first_fail_found (good_after book places) n r h (sym (good_now e f) ∙ g))

  pub scan_end : n ≤ r → r ≡ first_bad_at book places n
  scan_end h = sym (s.same ∙ first_fail_end (good_after book places) n r h)

-- the same of rows that are lent
pub first_bad_none : (rows : List ℕ) (n : ℕ) → first_bad n rows ≡ first_fail (good_at rows) 0 (n - 0)
unfolding first_bad
first_bad_none rows n = let e : n ≡ n - 0 = omega arith in ap (first_fail (good_at rows) 0) e

-- what the two loops over rows are told
pub ruleset row_by_row = (scan_next, scan_found, scan_end, row_bad, rows_good)
