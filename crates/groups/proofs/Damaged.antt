-- No number is read where, and only where, none stands at the front of the bytes.
-- Assumes nothing.
use Rattle.std.specs.Prelude.{Some, None}
use Prim.Native.Nat.{ℕ, zero, suc, ◌+◌, ◌*◌, ◌%◌, ◌≤◌, ◌<◌}
use mathlib.Core.Path.{◌≡◌, ◌∙◌, refl, sym, ap}
use mathlib.Core.List.{List, [], ◌∷◌, ◌++◌}
use mathlib.Core.Logic.{◌⊎◌, inl, inr, ⊎_elim}
use native.Mathlib.Numerals.{add-one}
use native.Mathlib.Omega.{arith}
use lib.Dec.{ltb, eqb}
use lib.ListN.{length}
use borrow.Author.Tests.{lt-ltb, le-ltb, ltb-true, ltb-false, ne_eqb, eqb-true, eqb-false}
use Rattle.basis.proofs.Tests.{cases}
use Rattle.groups.specs.Decode.{later_groups, last_group, extend, limit, decode}
use Rattle.groups.specs.Rows.{Continued, grouped, Damaged}
use Rattle.groups.proofs.Encode.{cap}
use Rattle.groups.proofs.Decode.{first_alone, first_continued, later_continued}
use Rattle.groups.proofs.Numbers.{differ}

later_ends : (f : ℕ) (bs : List ℕ) → Continued bs → later_groups f bs ≡ None
unfolding later_groups Continued extend
later_ends zero [] c = refl
later_ends (suc f) [] c = refl
later_ends zero (b ∷ bs) c = rw (le-ltb b 128 c.0)
later_ends (suc f) (b ∷ bs) c = rw (le-ltb b 128 c.0, later_ends f bs c.1) refl

later_zero : (f : ℕ) (gs rest : List ℕ) → Continued gs → later_groups f (gs ++ (0 ∷ rest)) ≡ None
unfolding later_groups Continued extend last_group
later_zero zero [] rest c = refl
later_zero (suc f) [] rest c = refl
later_zero zero (g ∷ gs) rest c = rw (le-ltb g 128 c.0)
later_zero (suc f) (g ∷ gs) rest c = rw (le-ltb g 128 c.0, later_zero f gs rest c.1) refl

grouped_pos : (gs : List ℕ) (b : ℕ) → 0 < b → b < 128 → 0 < grouped (gs ++ (b ∷ []))
unfolding grouped
grouped_pos [] b p l = omega arith
grouped_pos (g ∷ gs) b p l = omega (arith, grouped_pos gs b p l)

-- groups that end in one above 0 are read as their number, or are too many for f before the last, and their number too great
abbrev Read : ℕ → List ℕ → List ℕ → ℕ → Type 0
Read f gs rest b =
    (later_groups f (gs ++ (b ∷ rest)) ≡ Some (grouped (gs ++ (b ∷ [])), suc (length gs)))
    ⊎ ((later_groups f (gs ++ (b ∷ rest)) ≡ None) × (cap f ≤ grouped (gs ++ (b ∷ []))))

extend_number : (g v k : ℕ) → extend g (Some (v, k)) ≡ Some (g % 128 + 128 * v, suc k)
unfolding extend
extend_number g v k = let a : v * 128 + g % 128 ≡ g % 128 + 128 * v = omega arith in rw (a, add-one)

later_read : (f : ℕ) (gs rest : List ℕ) (b : ℕ) → Continued gs → 0 < b → b < 128 → Read f gs rest b
unfolding later_groups Continued extend last_group grouped cap
later_read zero [] rest b c p l = inl (let e : b % 128 + 128 * 0 ≡ b = omega arith in rw (lt-ltb b 128 l, ne_eqb b 0 (λ z. omega arith), e))
later_read (suc f) [] rest b c p l = inl (let e : b % 128 + 128 * 0 ≡ b = omega arith in rw (lt-ltb b 128 l, ne_eqb b 0 (λ z. omega arith), e))
later_read zero (g ∷ gs) rest b c p l = inr (rw (le-ltb g 128 c.0), omega (arith, grouped_pos gs b p l))
later_read (suc f) (g ∷ gs) rest b c p l =
    let s = later_continued f g (gs ++ (b ∷ rest)) c.0 in
    ⊎_elim (λ e. inl (s ∙ ap (extend g) e ∙ extend_number g _ _)) (λ e. inr (s ∙ ap (extend g) e.0, omega (arith, e.1)))
    (later_read f gs rest b c.1 p l)

limit_great : (v k : ℕ) → 4294967295 < v → limit (Some (v, k)) ≡ None
unfolding limit
limit_great v k h = rw (le-ltb v 4294967296 (omega arith))

great_limited : (v k : ℕ) → limit (Some (v, k)) ≡ None → 4294967295 < v
unfolding limit
great_limited v k e = cases (ltb v 4294967296) (λ t. differ (sym (rw t at e))) (λ t. omega (arith, ltb-false v 4294967296 t))

-- no number is read from a damaged one
ends_unread : (bs : List ℕ) → Continued bs → decode bs ≡ None
unfolding decode Continued limit extend
ends_unread [] c = refl
ends_unread (b ∷ bs) c = first_continued b bs c.0 ∙ ap (λ d. limit (extend b d)) (later_ends 3 bs c.1)

long_unread : (gs rest : List ℕ) → Continued gs → 0 < length gs → decode (gs ++ (0 ∷ rest)) ≡ None
unfolding Continued limit extend
long_unread [] rest c h = absurd (omega arith)
long_unread (g ∷ gs) rest c h = first_continued g (gs ++ (0 ∷ rest)) c.0 ∙ ap (λ d. limit (extend g d)) (later_zero 3 gs rest c.1)

great_unread : (gs rest : List ℕ) (b : ℕ) → Continued gs → b < 128 → 4294967295 < grouped (gs ++ (b ∷ [])) → decode (gs ++ (b ∷ rest)) ≡ None
unfolding Continued limit extend grouped
great_unread [] rest b c l h = absurd (omega arith)
great_unread (g ∷ gs) rest b c l h =
    cases (eqb b 0) (λ t. rw (eqb-true b 0 t) (long_unread (g ∷ gs) rest c (omega arith)))
    (λ t.
    let z = eqb-false b 0 t in
    first_continued g (gs ++ (b ∷ rest)) c.0
    ∙ ⊎_elim (λ r. ap (λ d. limit (extend g d)) r ∙ ap limit (extend_number g _ _) ∙ limit_great _ _ h) (λ r. ap (λ d. limit (extend g d)) r.0)
    (later_read 3 gs rest b c.1 (omega arith) l))

pub damaged_unread : (bs : List ℕ) → Damaged bs → decode bs ≡ None
damaged_unread bs (Damaged.ends c) = ends_unread bs c
damaged_unread bs (Damaged.not_shortest gs rest e c h) = ap decode e ∙ long_unread gs rest c h
damaged_unread bs (Damaged.too_great gs rest b e c l h) = ap decode e ∙ great_unread gs rest b c l h

-- the groups up to the first byte without a top bit, and that byte
record Ended (bs : List ℕ) : Type 0 where
  groups : List ℕ
  last : ℕ
  rest : List ℕ
  is : bs ≡ groups ++ (last ∷ rest)
  continued : Continued groups
  below : last < 128

ended : (bs : List ℕ) → Continued bs ⊎ Ended bs
unfolding Continued
ended [] = inl tt
ended (b ∷ bs) =
    cases (ltb b 128)
    (λ t. inr (record { groups = []; last = b; rest = bs; is = refl; continued = tt; below = ltb-true b 128 t }))
    (λ t.
    let l = ltb-false b 128 t in
    ⊎_elim (λ c. inl (l, c))
    (λ e. inr (record { groups = b ∷ e.groups; last = e.last; rest = e.rest; is = ap (λ (x : List ℕ). b ∷ x) e.is; continued = (l, e.continued); below = e.below }))
    (ended bs))

-- groups of which no number is read: the last of several is 0, or their number is too great
several : (g : ℕ) (gs rest : List ℕ) (b : ℕ) → Continued (g ∷ gs) → b < 128 → decode (g ∷ gs ++ (b ∷ rest)) ≡ None → (b ≡ 0) ⊎ (4294967295 < grouped (g ∷ gs ++ (b ∷ [])))
unfolding Continued grouped cap
several g gs rest b c l e =
    cases (eqb b 0) (λ t. inl (eqb-true b 0 t))
    (λ t.
    let z = eqb-false b 0 t in
    let m = sym (first_continued g (gs ++ (b ∷ rest)) c.0) ∙ e in
    inr
    (⊎_elim (λ r. great_limited _ _ (sym (ap limit (extend_number g _ _)) ∙ sym (ap (λ d. limit (extend g d)) r) ∙ m)) (λ r. omega (arith, r.1))
    (later_read 3 gs rest b c.1 (omega arith) l)))

pub unread_damaged : (bs : List ℕ) → decode bs ≡ None → Damaged bs
unread_damaged bs e = ⊎_elim Damaged.ends (λ d. go d.groups d.last d.rest d.is d.continued d.below) (ended bs)
  where
    go : (gs : List ℕ) (b : ℕ) (rest : List ℕ) → bs ≡ gs ++ (b ∷ rest) → Continued gs → b < 128 → Damaged bs
    go [] b rest f c l = differ (sym e ∙ ap decode f ∙ first_alone b rest l)
    go (g ∷ gs) b rest f c l =
        ⊎_elim (λ z. Damaged.not_shortest (g ∷ gs) rest (f ∙ ap (λ (x : ℕ). g ∷ gs ++ (x ∷ rest)) z) c (omega arith)) (λ h. Damaged.too_great (g ∷ gs) rest b f c l h)
        (several g gs rest b c l (sym (ap decode f) ∙ e))
