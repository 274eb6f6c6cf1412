-- Laws of `decode` by its first byte, at the front and at an offset of the bytes, and the size of what it reads.
-- Assumes nothing.
use Rattle.std.specs.Prelude.{Option, Some, None}
use Prim.Native.Nat.{ℕ, zero, suc, ◌+◌, ◌*◌, ◌^◌, ◌≤◌, ◌<◌}
use mathlib.Core.Path.{◌≡◌, refl, subst}
use mathlib.Core.Bool.{Bool, true, false, cond}
use mathlib.Core.List.{List, [], ◌∷◌}
use native.Mathlib.Numerals.{add-one}
use native.Mathlib.Omega.{arith}
use lib.Dec.{leb, ltb, eqb}
use lib.ListN.{length, drop, get_or, drop_of_length-le, length-drop}
use lib.Seq.{drop-cons}
use borrow.Author.Tests.{lt-ltb, le-ltb, ltb-true, leb-true, leb-false}
use Rattle.basis.proofs.Tests.{cases}
use Rattle.groups.specs.Decode.{later_groups, last_group, extend, limit, decode}
use Rattle.groups.proofs.Encode.{cap, cap_least}

-- by the two cases of a number
pub decoded : {A : Type 0} (d : Option (ℕ × ℕ)) → ((v k : ℕ) → d ≡ Some (v, k) → A) → (d ≡ None → A) → A
decoded (Some (v, k)) f g = f v k refl
decoded None f g = g refl

-- a byte without its top bit, and one with it
pub first_alone : (b : ℕ) (bs : List ℕ) → b < 128 → decode (b ∷ bs) ≡ Some (b, 1)
unfolding decode
first_alone b bs l = rw (lt-ltb b 128 l)

pub first_continued : (b : ℕ) (bs : List ℕ) → 128 ≤ b → decode (b ∷ bs) ≡ limit (extend b (later_groups 3 bs))
unfolding decode
first_continued b bs l = rw (le-ltb b 128 l)

pub later_continued : (f b : ℕ) (bs : List ℕ) → 128 ≤ b → later_groups (suc f) (b ∷ bs) ≡ extend b (later_groups f bs)
unfolding later_groups
later_continued f b bs l = rw (le-ltb b 128 l)

-- the same at an offset, and the end of the bytes
pub later_end : (f : ℕ) (s : List ℕ) (at : ℕ) → length s ≤ at → later_groups f (drop at s) ≡ None
unfolding later_groups
later_end zero s at h = rw (drop_of_length-le s h)
later_end (suc f) s at h = rw (drop_of_length-le s h)

pub later_last : (f : ℕ) (s : List ℕ) (at : ℕ) → at < length s → get_or s at 0 < 128 → later_groups f (drop at s) ≡ last_group (get_or s at 0)
unfolding later_groups
later_last zero s at h b = rw (drop-cons s at 0 h, lt-ltb _ _ b)
later_last (suc f) s at h b = rw (drop-cons s at 0 h, lt-ltb _ _ b)

pub decode_end : (s : List ℕ) (at : ℕ) → length s ≤ at → decode (drop at s) ≡ None
unfolding decode
decode_end s at h = rw (drop_of_length-le s h)

pub decode_one : (s : List ℕ) (at : ℕ) → at < length s → get_or s at 0 < 128 → decode (drop at s) ≡ Some (get_or s at 0, 1)
decode_one s at h b = rw (drop-cons s at 0 h) (first_alone (get_or s at 0) (drop (suc at) s) b)

pub decode_more : (s : List ℕ) (at : ℕ) → at < length s → 128 ≤ get_or s at 0
    → decode (drop at s) ≡ limit (extend (get_or s at 0) (later_groups 3 (drop (at + 1) s)))
decode_more s at h b = rw (add-one, drop-cons s at 0 h) (first_continued (get_or s at 0) (drop (suc at) s) b)

-- of no bytes
pub none_at_end : (bs : List ℕ) → length bs ≡ 0 → decode bs ≡ None
unfolding decode
none_at_end [] h = refl
none_at_end (b ∷ bs) h = absurd (omega arith)

-- a number below m of at most n bytes, which end within l
pub record Within (m n l v k : ℕ) : Type 0 where
  pub value : v < m
  pub count : k ≤ n
  pub ends : k ≤ l

-- such a number, or none
abbrev pub Bounded : ℕ → ℕ → ℕ → Option (ℕ × ℕ) → Type 0
Bounded m n l (Some (v, k)) = Within m n l v k
Bounded m n l None = Unit

extend_bounded : (m n l b : ℕ) (p : Option (ℕ × ℕ)) → Bounded m n l p → Bounded (128 * m) (suc n) (suc l) (extend b p)
unfolding extend
extend_bounded m n l b (Some (v, k)) w = record { value = omega arith; count = omega arith; ends = omega arith }
extend_bounded m n l b None w = tt

limit_bounded : (m n l : ℕ) (p : Option (ℕ × ℕ)) → Bounded m n l p → Bounded (2 ^ 32) n l (limit p)
unfolding limit
limit_bounded m n l (Some (v, k)) w =
    cases (ltb v (2 ^ 32)) (λ t. rw t (record { value = ltb-true v (2 ^ 32) t; count = w.count; ends = w.ends })) (λ t. rw t tt)
limit_bounded m n l None w = tt

last_bounded : (f l b : ℕ) (e : Bool) → b < 128 → Bounded (cap f) (suc f) (suc l) (cond e None (Some (b, 1)))
last_bounded f l b true h = tt
last_bounded f l b false h = record { value = omega (arith, cap_least f); count = omega arith; ends = omega arith }

-- a last group, where the first byte has no top bit, else what the later groups give
first_bounded : (f l b : ℕ) (q : Option (ℕ × ℕ)) → Bounded (cap f) (suc f) (suc l) q → Bounded (cap f) (suc f) (suc l) (cond (ltb b 128) (last_group b) q)
unfolding last_group
first_bounded f l b q w = cases (ltb b 128) (λ t. rw t (last_bounded f l b (eqb b 0) (ltb-true b 128 t))) (λ t. rw t w)

later_bounded : (f : ℕ) (bs : List ℕ) → Bounded (cap f) (suc f) (length bs) (later_groups f bs)
unfolding later_groups cap
later_bounded zero [] = tt
later_bounded (suc f) [] = tt
later_bounded zero (b ∷ bs) = first_bounded zero (length bs) b None tt
later_bounded (suc f) (b ∷ bs) =
    first_bounded (suc f) (length bs) b (extend b (later_groups f bs)) (extend_bounded (cap f) (suc f) (length bs) b (later_groups f bs) (later_bounded f bs))

-- a number is of 32 bits, has at most five bytes, and ends within those that there are
decode_bounded : (bs : List ℕ) → Bounded (2 ^ 32) 5 (length bs) (decode bs)
unfolding decode
decode_bounded [] = tt
decode_bounded (b ∷ bs) =
    cases (ltb b 128) (λ t. rw t (record { value = omega (arith, ltb-true b 128 t); count = omega arith; ends = omega arith }))
    (λ t. rw t (limit_bounded _ 5 (suc (length bs)) (extend b (later_groups 3 bs)) (extend_bounded _ 4 (length bs) b (later_groups 3 bs) (later_bounded 3 bs))))

pub decode_within : (bs : List ℕ) (v k : ℕ) → decode bs ≡ Some (v, k) → Within (2 ^ 32) 5 (length bs) v k
decode_within bs v k e = subst (Bounded (2 ^ 32) 5 (length bs)) e (decode_bounded bs)

-- no number reaches beyond the end
pub number_ends : (file : List ℕ) (at v k : ℕ) → decode (drop at file) ≡ Some (v, k) → at + k ≤ length file
number_ends file at v k e =
    cases (leb (length file) at) (λ t. let n = decode_end file at (leb-true (length file) at t) in absurd (cc (n, e)))
    (λ t. omega (arith, (decode_within (drop at file) v k e).ends, length-drop at file, leb-false (length file) at t))
