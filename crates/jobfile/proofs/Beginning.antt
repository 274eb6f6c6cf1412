-- The promises of specs/Beginning.antt, proved.
-- Assumes nothing.
use Prim.Native.Nat.{ℕ, ◌+◌, ◌*◌, ◌≤◌}
use mathlib.Core.Path.{◌≡◌}
use mathlib.Core.List.{List}
use native.Mathlib.Omega.{arith}
use lib.ListN.{take}
use Rattle.groups.proofs.Beginning.{decode_take, damage_take, values_take}
use Rattle.jobfile.specs.Kind.{Kind, scaffold, support, count, marks_support, kind_of}
use Rattle.jobfile.specs.Read.{read_as, job_in}
use Rattle.jobfile.specs.Beginning.{beginning_length, Beginning}

count_most : (k : Kind) → 5 * count k + 1 ≤ beginning_length
count_most scaffold = omega arith
count_most support = omega arith

module _ (file : List ℕ) where
  same_kind : kind_of (take beginning_length file) ≡ kind_of file
  unfolding kind_of marks_support
  same_kind = rw (decode_take beginning_length file (omega arith))

  same_read : (k : Kind) → read_as k (take beginning_length file) ≡ read_as k file
  same_read k =
      let l = count_most k in
      rw (damage_take (count k) beginning_length 0 file l, values_take (count k) beginning_length file (omega arith))

  same_job : job_in (take beginning_length file) ≡ job_in file
  unfolding job_in
  same_job = rw same_kind (same_read (kind_of file))

pub beginning : Beginning
beginning = record { same_job = same_job }
