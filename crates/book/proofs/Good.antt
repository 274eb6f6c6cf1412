-- A row is good just where it stands, and the lowest bad row is the first to which 3, 4 or 5 applies.
-- Assumes nothing.
use Prim.Native.Nat.{ℕ, ◌<◌}
use mathlib.Core.Path.{◌≡◌, refl}
use mathlib.Core.Bool.{false}
use mathlib.Core.List.{List}
use mathlib.Core.Logic.{⊎_elim}
use native.Mathlib.Nat.{zero-add}
use native.Mathlib.Omega.{arith}
use lib.Dec.{T}
use Rattle.std.specs.Prelude.{Ok, Err, is_ok}
use Rattle.basis.specs.Refusal.{Examined, nothing}
use Rattle.basis.specs.Rows.{Some}
use Rattle.basis.proofs.Rows.{unrefused}
use Rattle.basis.proofs.Searches.{first_fail_never, first_fail_fails, first_fail_passes, first_fail_is}
use Rattle.jobfile.specs.Kind.{scaffold, examination, Row, Stands}
use Rattle.jobfile.proofs.BothKinds.{told}
use Rattle.book.specs.Book.{row, good, good_at, first_bad}
use Rattle.book.specs.Rows.{AllStand, FirstBad}

-- an examination that is passed refuses nothing
passed : (e : Examined) → T (is_ok e) → e ≡ nothing
passed (Ok none) t = refl
passed (Err r) t = absurd t

module _ (ns : List ℕ) where
  good_stands : T (good ns) → Stands scaffold ns
  unfolding good
  good_stands t = unrefused (told scaffold ns) (passed (examination scaffold ns) t)

  stands_good : Stands scaffold ns → T (good ns)
  unfolding good
  stands_good s = rw ((told scaffold ns).none s) tt

  bad_fails : Some (Row scaffold ns) → good ns ≡ false
  unfolding good
  bad_fails b = rw (((told scaffold ns).row b.0 b.1.0 b.1.1).is) refl

  fails_bad : good ns ≡ false → Some (Row scaffold ns)
  fails_bad f = ⊎_elim (λ s. absurd (rw f at (stands_good s))) (λ b. b) (told scaffold ns).every

module _ (n : ℕ) (rows : List ℕ) where
  pub first_bad_lem : (r : ℕ) → FirstBad n rows r → first_bad n rows ≡ r
  unfolding first_bad good_at
  first_bad_lem r b = first_fail_is (good_at rows) n r b.within (bad_fails (row rows r) b.bad) (λ i l. stands_good (row rows i) (b.before i l))

  pub all_good : AllStand n rows → first_bad n rows ≡ n
  unfolding first_bad good_at
  all_good s = rw zero-add at (first_fail_never (good_at rows) n 0 (λ r l. rw zero-add (stands_good (row rows r) (s r l))))

  -- the rows before the lowest bad one stand, all of them where there is none
  pub before_stand : AllStand (first_bad n rows) rows
  unfolding first_bad good_at
  before_stand r l = good_stands (row rows r) (first_fail_passes (good_at rows) n 0 r (omega arith) l)

  pub bad_found : first_bad n rows < n → FirstBad n rows (first_bad n rows)
  unfolding first_bad good_at
  bad_found l = record { within = l; bad = fails_bad _ (first_fail_fails (good_at rows) n 0 (omega arith)); before = before_stand }
