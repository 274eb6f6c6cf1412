-- A buffer d whose first n elements are those of s: a copy from the front.
-- Assumes nothing.
use Prim.Native.Nat.{ℕ, suc, ◌+◌, ◌-◌, ◌≤◌, ◌<◌}
use mathlib.Core.Path.{◌≡◌, ◌∙◌, sym, ap}
use mathlib.Core.List.{List, [], ◌++◌, append-nil, append_assoc}
use native.Mathlib.Nat.{zero-add}
use native.Mathlib.Omega.{arith}
use lib.ListN.{length, take, drop, get_or, set, length-append, length-take, length-drop, drop_of_length-le}
use borrow.Rule.Slice.PartMut.{put_mid}
use lib.Seq.{take_all, drop-append_seam, paste-suc, take-length, length-take-le, take_at, drop_at, take-add, take-append_seam, drop-drop}

abbrev pub front : List ℕ → List ℕ → ℕ → List ℕ
front d s n = take n s ++ drop n d

pub front_length : (d s : List ℕ) (n : ℕ) → n ≤ length d → n ≤ length s → length (front d s n) ≡ length d
front_length d s n hd hs = simp (length-append, length-take, length-drop) (omega arith)

pub front_suc : (d s : List ℕ) (n : ℕ) → n < length d → n < length s → set (front d s n) n (get_or s n 0) ≡ front d s (suc n)
front_suc d s n hd hs =
    let h : 0 + n < length d = omega arith in
    simp zero-add at (paste-suc d 0 s n 0 h hs)

pub front_all : (d s : List ℕ) (n : ℕ) → n ≡ length s → front d s n ≡ s ++ drop (length s) d
front_all d s n e = rw (e, take-length)

-- A part from index n on is lent, its first elements become t, the next elements of s, and the part is back (`put_mid`).
pub front_part : (d s t u o : List ℕ) (n : ℕ) → n ≤ length s → length s ≤ length d → o ≡ front d s n → drop n s ≡ t ++ u
    → put_mid n (length o - n) o (t ++ drop (length t) (take (length o - n) (drop n o))) ≡ front d s (n + length t)
front_part d s t u o n hs hd e₀ e =
    let l : length (take n s) ≡ n = length-take-le n s hs in
    let td : take n (front d s n) ≡ take n s = take_at (take n s) (drop n d) n l in
    let dd : drop n (front d s n) ≡ drop n d = drop_at (take n s) (drop n d) n l in
    let lo : length (front d s n) ≡ length d = front_length d s n (omega arith) hs in
    let le : length (drop n d) ≤ length d - n = omega (arith, length-drop n d) in
    let ta : take (length d - n) (drop n d) ≡ drop n d = take_all (length d - n) (drop n d) le in
    let z : drop (length d - n) (drop n d) ≡ [] = drop_of_length-le (drop n d) le in
    let h : take (n + length t) s ≡ take n s ++ t = take-add n (length t) s ∙ ap (λ (x : List ℕ). take n s ++ x) (ap (λ (x : List ℕ). take (length t) x) e ∙ take-append_seam t u) in
    simp (e₀, lo, td, dd, ta, z, h, append-nil, append_assoc, drop-drop)

-- the next elements of s, and what is left of it after them
pub front_next : (s t u : List ℕ) (n : ℕ) → n ≤ length s → drop n s ≡ t ++ u → (drop (n + length t) s ≡ u) × (n + length t ≤ length s)
front_next s t u n h e = (
  sym (drop-drop (length t) n s) ∙ ap (λ (x : List ℕ). drop (length t) x) e ∙ drop-append_seam t u,
  omega (arith, simp (length-append, length-drop) at (ap length e)),
)
