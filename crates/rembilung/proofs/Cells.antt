-- What is asked of load cells, proved: from the table's rows and what crate cells writes.
-- Assumes nothing.
use Prim.Native.Nat.{ℕ, ◌*◌, ◌/◌, ◌≤◌}
use mathlib.Core.Path.{◌≡◌, refl}
use mathlib.Core.List.{List}
use mathlib.Core.Logic.{⊎_elim}
use native.Mathlib.Omega.{arith}
use lib.ListN.{length}
use Rattle.basis.proofs.Rows.{exactly}
use Rattle.cells.specs.Cells.{record_count, cells_written, cells_left}
use Rattle.cells.specs.Rows.{Row, Runs}
use Rattle.cells.proofs.Greatest.{told}
use Rattle.rembilung.specs.Call.{cells_code, cells_buffer}
use Rattle.rembilung.specs.Table.{Refuses}
use Rattle.rembilung.specs.Header.{Halves}
use Rattle.rembilung.specs.Cells.{cell_output_most, Cells}
use Rattle.rembilung.proofs.Answered.{returned, refuses}
use Rattle.rembilung.proofs.Header.{halves}

module _ (records : List ℕ) (w : ℕ) (out : List ℕ) where
  refused : (n p : ℕ) → Row records w out n p → Refuses n p (cells_code records w out) out (cells_buffer records w out)
  unfolding cells_code cells_buffer
  refused n p a = refuses (cells_written records w out) out (cells_left records w out) (λ x e. rw e (refl, refl)) n p ((told.refused records w out).row n p a)

  answered : Runs records w out → cells_code records w out ≡ 4 * record_count records
  unfolding cells_code
  answered a = returned (told.answered records w out a)

  halved : Halves (cells_code records w out) (Row records w out) (Runs records w out)
  halved = halves (told.refused records w out) (cells_code records w out) (λ n p a. (refused n p a).code) (λ a. omega (arith, answered a, a.whole.few))

  never_8 : cell_output_most ≤ length out → cells_code records w out / 4294967296 ≡ 8 → ⊥
  never_8 l e = ⊎_elim (λ a. omega (arith, halved.answered a)) (λ r. row r.0 r.1.0 r.1.1) (told.refused records w out).every
    where
      row : (n p : ℕ) → Row records w out n p → ⊥
      row n p (Row.beyond h) = omega (arith, (halved.refused 13 _ (Row.beyond h)).0)
      row n p (Row.uneven i h) = omega (arith, (halved.refused 15 _ (Row.uneven i h)).0)
      row n p (Row.wrong i h k f) = omega (arith, (halved.refused 14 _ (Row.wrong i h k f)).0)
      row n p (Row.short i h a s) = omega (arith, h.few)

pub cells : Cells
unfolding cells_buffer
cells =
    record {
      refused = refused;
      answered = answered;
      exactly = λ records w out. exactly (told.refused records w out);
      each = told.each;
      rest = told.rest;
      halves = halved;
      never_8 = never_8;
    }
