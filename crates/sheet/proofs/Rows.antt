-- What is refused of a sheet is what the table says: row by row, and where none applies.
-- Assumes nothing.
use mathlib.Core.Path.{◌≡◌, refl, sym}
use mathlib.Core.Bool.{not, ◌&&◌, ◌||◌}
use mathlib.Core.List.{List}
use mathlib.Core.Logic.{◌⊎◌, inl, inr}
use Prim.Native.Nat.{ℕ, ◌-◌, ◌≤◌, ◌<◌}
use native.Mathlib.Nat.{zero-add}
use native.Mathlib.Omega.{arith}
use lib.Dec.{T, eqb, leb, ltb, eqb→eq, leb→le}
use lib.ListN.{length, get_or}
use borrow.Author.Tests.{ltb-true, ltb-false, leb-false, eqb-true, eqb-false, eq-eqb, ne_eqb}
use Rattle.basis.specs.Range.{within}
use Rattle.basis.specs.Refusal.{nothing}
use Rattle.basis.specs.declared.Refusal.TheVariants.{SheetLength, SheetEntry}
use Rattle.basis.specs.Rows.{First, Some, Refused, Follows}
use Rattle.basis.proofs.Tests.{cases, holds, both_left, both_right, either_elim, either_false, within_le}
use Rattle.basis.proofs.Rows.{refused_is, unrefused}
use Rattle.basis.proofs.Searches.{first_fail_never, first_fail_fails, first_fail_passes}
use Rattle.sheet.specs.Sheet.{entry_stands, fault, examination}
use Rattle.sheet.proofs.Faults.{found as some_found, none_found}
use Rattle.sheet.specs.Rows.{Faulty, Row, Stands, Told}

module _ (s : List ℕ) where
  -- an entry stands, or it is faulty
  not_faulty : (k : ℕ) → T (entry_stands s k) → Faulty s k → ⊥
  unfolding entry_stands
  not_faulty k t = go
    where
      within_1_1000 : (1 ≤ get_or s k 0) × (get_or s k 0 ≤ 1000)
      within_1_1000 = within_le 1 1000 (get_or s k 0) (both_left (within 1 1000 (get_or s k 0)) _ t)

      later : T ((eqb k 0 || leb (get_or s k 0) (get_or s (k - 1) 0)) && (not (eqb k 250) || leb 117 (get_or s k 0)))
      later = both_right (within 1 1000 (get_or s k 0)) _ t

      go : Faulty s k → ⊥
      go (Faulty.zero e) = omega (arith, within_1_1000.0)
      go (Faulty.great l) = omega (arith, within_1_1000.1)
      go (Faulty.rises p l) =
          either_elim (eqb k 0) (leb (get_or s k 0) (get_or s (k - 1) 0)) (λ z. omega (arith, eqb→eq k 0 z))
          (λ z. omega (arith, leb→le (get_or s k 0) (get_or s (k - 1) 0) z))
          (both_left (eqb k 0 || leb (get_or s k 0) (get_or s (k - 1) 0)) (not (eqb k 250) || leb 117 (get_or s k 0)) later)
      go (Faulty.low e l) =
          either_elim (not (eqb k 250)) (leb 117 (get_or s k 0)) (λ z. rw (eq-eqb k 250 e) at z)
          (λ z. omega (arith, leb→le 117 (get_or s k 0) z))
          (both_right (eqb k 0 || leb (get_or s k 0) (get_or s (k - 1) 0)) _ later)

  faulty : (k : ℕ) → (T (entry_stands s k) → ⊥) → Faulty s k
  unfolding entry_stands
  faulty k h =
      cases (leb 1 (get_or s k 0))
      (λ a. cases (leb (get_or s k 0) 1000)
      (λ b. cases (eqb k 0 || leb (get_or s k 0) (get_or s (k - 1) 0))
      (λ c. cases (eqb k 250)
      (λ d. cases (leb 117 (get_or s k 0)) (λ f. absurd (h (rw (a, b, c, d, f) tt))) (λ f. Faulty.low (eqb-true k 250 d) (leb-false 117 (get_or s k 0) f)))
      (λ d. absurd (h (rw (a, b, c, d) tt))))
      (λ c. let f = either_false (eqb k 0) (leb (get_or s k 0) (get_or s (k - 1) 0)) c in let z = eqb-false k 0 f.0 in Faulty.rises (omega arith) (leb-false (get_or s k 0) (get_or s (k - 1) 0) f.1)))
      (λ b. Faulty.great (leb-false (get_or s k 0) 1000 b)))
      (λ a. Faulty.zero (let l = leb-false 1 (get_or s k 0) a in omega arith))

  passes : (k : ℕ) → k < fault s → Faulty s k → ⊥
  unfolding fault
  passes k l = not_faulty k (first_fail_passes (entry_stands s) 251 0 k (omega arith) l)

  first : fault s < 251 → First (Faulty s) (fault s)
  unfolding fault
  first u = record { here = faulty _ (λ z. rw (first_fail_fails (entry_stands s) 251 0 u) at z); before = passes }

  -- the first faulty entry is the one found, and none is found where none is faulty
  found : (k : ℕ) → k ≤ 250 → First (Faulty s) k → fault s ≡ k
  found k l f =
      cases (ltb (fault s) k) (λ t. let u = ltb-true (fault s) k t in absurd (f.before (fault s) u (first (omega arith)).here))
      (λ t. cases (ltb k (fault s)) (λ u. absurd (passes k (ltb-true k (fault s) u) f.here)) (λ u. omega (arith, ltb-false (fault s) k t, ltb-false k (fault s) u)))

  unfaulted : ((k : ℕ) → k ≤ 250 → Faulty s k → ⊥) → fault s ≡ 251
  unfolding fault
  unfaulted h = first_fail_never (entry_stands s) 251 0 (λ k l. rw zero-add (cases (entry_stands s k) holds (λ t. absurd (h k (omega arith) (faulty k (λ z. rw t at z))))))

  row_is : (n p : ℕ) → Row s n p → Refused (examination s) n p
  row_is n p (Row.other_length h) = refused_is (SheetLength (length s)) (rw (ne_eqb (length s) 251 h) refl)
  row_is n p (Row.entry k l u f) =
      refused_is (SheetEntry k) (rw (eq-eqb (length s) 251 l, ← some_found s k (omega arith) (sym (found k u f))) refl)

  none_is : Stands s → examination s ≡ nothing
  none_is h = rw (eq-eqb (length s) 251 h.long, ← none_found s (unfaulted h.entries)) refl

  every_is : Stands s ⊎ Some (Row s)
  every_is =
      cases (eqb (length s) 251)
      (λ l. let e = eqb-true (length s) 251 l in
      cases (ltb (fault s) 251)
      (λ t. let u = ltb-true (fault s) 251 t in inr (2, (fault s, Row.entry (fault s) e (omega arith) (first u))))
      (λ t. let u = ltb-false (fault s) 251 t in inl (record { long = e; entries = λ k m. passes k (omega arith) })))
      (λ l. inr (1, (length s, Row.other_length (eqb-false (length s) 251 l))))

  follows : Follows (examination s) (Row s) (Stands s)
  follows = record { row = row_is; none = none_is; every = every_is }

-- a sheet of which nothing is refused stands
pub unrefused_stands : (s : List ℕ) → examination s ≡ nothing → Stands s
unrefused_stands s = unrefused (follows s)

pub told : Told
told = record { told = follows }
