-- `first_fault` meets its contract: a scan from 0. The invariant: `before` is the entry before k, and what is left to scan has the whole's answer. Assumes nothing.
use mathlib.Core.Path.{◌≡◌}
use Prim.Native.Nat.{◌-◌}
use lib.ListN.{get_or}
use Rattle.basis.specs.Search.{first_fail}
use Rattle.sheet.specs.Sheet.{entry_stands}
use Rattle.sheet.proofs.first_fault.Given as goal

abbrev pub invariant-loop-k : goal.invariant-loop-k
invariant-loop-k l =
    (l.before ≡ get_or l.sheet (l.k - 1) 0) × (first_fail (entry_stands l.sheet) l.k (251 - l.k) ≡ first_fail (entry_stands l.sheet) 0 251)
