-- Laws of reading numbers one by one from the front.
-- Assumes nothing.
use Rattle.std.specs.Prelude.{Some, None, Ok, Err}
use Prim.Native.Nat.{ℕ, suc, ◌+◌, ◌-◌, ◌≤◌, ◌<◌}
use mathlib.Core.Path.{◌≡◌, ◌∙◌, refl, sym}
use mathlib.Core.List.{List, [], ◌∷◌, ◌++◌, append-nil, append_assoc}
use native.Mathlib.Numerals.{add-one}
use native.Mathlib.Omega.{arith}
use lib.Dec.{leb}
use lib.ListN.{length, take, drop, set, replicate, length-set, length-drop, drop_of_length-le}
use lib.Seq.{drop-cons, drop-drop, take_all, take-suc-set}
use borrow.Author.Tests.{leb-true, leb-false}
use borrow.Rule.Slice.PartMut.{put_mid}
use Rattle.basis.specs.Refusal.{nothing, unless}
use Rattle.basis.specs.declared.Refusal.{Refusal}
use Rattle.basis.specs.declared.Refusal.TheVariants.{Damaged, Trailing}
use Rattle.basis.proofs.Tests.{cases}
use Rattle.groups.specs.Decode.{decode}
use Rattle.groups.proofs.Decode.{decode_within}
use Rattle.groups.specs.Numbers.{extra, damage, values, numbers_in}

pub extra_at : (s : List ℕ) (at : ℕ) → unless (leb (length s) at) (Trailing at) nothing ≡ extra at (drop at s)
unfolding extra
extra_at s at =
    cases (leb (length s) at) (λ t. rw (t, drop_of_length-le s (leb-true (length s) at t)))
    (λ t. rw (t, drop-cons s at 0 (leb-false (length s) at t)))

-- one number more, and a damaged one
pub damage_next : (n at v k : ℕ) (bs : List ℕ) → decode bs ≡ Some (v, k) → damage (suc n) at bs ≡ damage n (at + k) (drop k bs)
unfolding damage
damage_next n at v k bs e = rw (e, damage) refl

pub values_next : (n v k : ℕ) (bs : List ℕ) → decode bs ≡ Some (v, k) → values (suc n) bs ≡ v ∷ values n (drop k bs)
unfolding values
values_next n v k bs e = rw (e, values) refl

pub damage_here : (n at : ℕ) (bs : List ℕ) → decode bs ≡ None → damage (suc n) at bs ≡ Err (Damaged at)
unfolding damage
damage_here n at bs e = rw (e, damage) refl

pub values_here : (n : ℕ) (bs : List ℕ) → decode bs ≡ None → values (suc n) bs ≡ replicate (suc n) 0
unfolding values
values_here n bs e = rw (e, values) refl

-- i of n numbers of a file are read, and the next stands at an offset
pub record SoFar (n : ℕ) (file numbers : List ℕ) (i at : ℕ) : Type 0 where
  pub within : at ≤ length file
  pub long : length numbers ≡ n
  pub same_damage : damage n 0 file ≡ damage (n - i) at (drop at file)
  pub same_values : values n file ≡ take i numbers ++ values (n - i) (drop at file)

module _ (n : ℕ) (file numbers : List ℕ) (i at : ℕ) (s : SoFar n file numbers i at) where
  pub so_far_next : (v k : ℕ) → i < n → Some (v, k) ≡ decode (drop at file) → SoFar n file (set numbers i v) (i + 1) (at + k)
  so_far_next v k l e =
      let p : n - i ≡ suc (n - suc i) = omega arith in
      let b : i < length numbers = omega (arith, s.long) in
      let d : drop k (drop at file) ≡ drop (at + k) file = drop-drop k at file in
      let w = decode_within (drop at file) v k (sym e) in
      record {
        within = omega (arith, w.ends, length-drop at file, s.within);
        long = simp length-set s.long;
        same_damage = rw add-one (s.same_damage ∙ rw (p, damage_next (n - suc i) at v k (drop at file) (sym e), d));
        same_values = rw (add-one, take-suc-set numbers i v b, append_assoc) (s.same_values ∙ rw (p, values_next (n - suc i) v k (drop at file) (sym e), d));
      }

  -- what is refused where it ends, and the lent row that it leaves: where a number is damaged, the rest is filled with 0
  pub so_far_refused : i < n → None ≡ decode (drop at file) → Err (Damaged at) ≡ damage n 0 file
  so_far_refused l e =
      let p : n - i ≡ suc (n - suc i) = omega arith in
      rw (s.same_damage, p, damage_here (n - suc i) at (drop at file) (sym e))

  pub so_far_filled : i < n → None ≡ decode (drop at file) → put_mid i (length numbers - i) numbers (replicate (length numbers - i) 0) ≡ values n file
  so_far_filled l e =
      let p : n - i ≡ suc (n - suc i) = omega arith in
      let b : length (drop i numbers) ≤ length numbers - i = omega (arith, length-drop i numbers) in
      let d : drop (length numbers - i) (drop i numbers) ≡ [] = drop_of_length-le (drop i numbers) b in
      rw (d, append-nil, s.long, s.same_values, p, values_here (n - suc i) (drop at file) (sym e))

  pub so_far_ended : n ≤ i → extra at (drop at file) ≡ damage n 0 file
  unfolding damage
  so_far_ended l = let p : n - i ≡ 0 = omega arith in sym (rw p at s.same_damage)

  pub so_far_whole : n ≤ i → numbers ≡ values n file
  unfolding values
  so_far_whole l =
      let p : n - i ≡ 0 = omega arith in
      let v : values n file ≡ take i numbers = rw (p, append-nil) at s.same_values in
      rw (v, take_all i numbers (omega (arith, s.long)))

  -- the same of one answer: the numbers, or what is refused of them
  pub so_far_damaged : i < n → None ≡ decode (drop at file) → Err (Damaged at) ≡ numbers_in n file
  unfolding numbers_in
  so_far_damaged l e = rw (← so_far_refused l e)

  module _ (l : n ≤ i) where
    pub so_far_all : extra at (drop at file) ≡ nothing → Ok numbers ≡ numbers_in n file
    unfolding numbers_in
    so_far_all z = rw (← so_far_ended l, z, ← so_far_whole l)

    pub so_far_extra : {r : Refusal} → extra at (drop at file) ≡ Err r → Err r ≡ numbers_in n file
    unfolding numbers_in
    so_far_extra z = rw (← so_far_ended l, z)

-- what the reader gives and leaves where it ends
pub ruleset so_far_read = (so_far_refused, so_far_filled, so_far_ended, so_far_whole)

-- what a reader that gives one answer gives where it ends
pub ruleset so_far = (so_far_damaged, so_far_all, so_far_extra)
