-- What is printed depends on a sheet's length, its first 502 bytes and a file's beginning.
-- Assumes nothing.
use Prim.Native.Nat.{ℕ, min}
use mathlib.Core.Path.{◌≡◌, refl}
use mathlib.Core.List.{List}
use native.Mathlib.Omega.{arith}
use lib.Dec.{eqb}
use lib.ListN.{length, take}
use lib.Seq.{take_all}
use borrow.Author.Tests.{ne_eqb, eqb-true, eqb-false}
use Rattle.basis.specs.declared.Refusal.TheVariants.{SheetLength}
use Rattle.basis.proofs.Tests.{cases}
use Rattle.jobfile.specs.Beginning.{beginning_length}
use Rattle.jobfile.proofs.Beginning.{beginning}
use Rattle.console.specs.Printed.{line, printed, printed_from, Beginnings}

module _ (sheet file : List ℕ) where
  file_beginning : printed sheet (take beginning_length file) ≡ printed sheet file
  unfolding printed
  file_beginning = rw (beginning.same_job file)

  other_length : (length sheet ≡ 502 → ⊥) → printed sheet file ≡ line (SheetLength (length sheet))
  unfolding printed
  other_length h = rw (ne_eqb (length sheet) 502 h) refl

suffice : (n : ℕ) (sheet file : List ℕ) → min n 4294967295 ≡ min (length sheet) 4294967295
    → printed_from n (take 502 sheet) (take beginning_length file) ≡ printed sheet file
unfolding printed_from
suffice n sheet file h =
    cases (eqb n 502)
    (λ t. let e = eqb-true n 502 t in rw (t, take_all 502 sheet (omega arith)) (file_beginning sheet file))
    (λ t. let e = eqb-false n 502 t in rw (t, other_length sheet file (λ z. e (omega arith)), h))

pub beginnings : Beginnings
beginnings = record { suffice = suffice }
