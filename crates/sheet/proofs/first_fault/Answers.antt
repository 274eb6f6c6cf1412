-- `first_fault` meets its contract: a scan from 0. Assumes nothing.
use mathlib.Core.Path.{◌≡◌, sym, ◌∙◌}
use mathlib.Core.Bool.{Bool}
use mathlib.Core.List.{List}
use Prim.Native.Nat.{ℕ, ◌-◌}
use native.Mathlib.Nat.{add-sub_cancel}
use native.Mathlib.Omega.{arith}
use lib.ListN.{get_or}
use Rattle.basis.proofs.Searches.{first_fail_found, first_fail_next, first_fail_end}
use Rattle.sheet.specs.Sheet.{stands, entry_stands, fault}
use Rattle.sheet.proofs.Faults.{found, none_found}
use Rattle.sheet.proofs.first_fault.Goals as goal

-- the test of the loop is the test of entry k
test_is : (s : List ℕ) (k : ℕ) {d : ℕ} {b : Bool} → b ≡ stands (get_or s k 0) d k → d ≡ get_or s (k - 1) 0 → b ≡ entry_stands s k
unfolding entry_stands
test_is s k f h = cc

pub returns-then-not-stands_after : goal.returns-then-not-stands_after
unfolding fault
returns-then-not-stands_after c =
    let l = c.loop-k in
    let e = sym (test_is _ l.k c.stands_after.ensures l.invariant.0) ∙ c.if-not-stands_after.true in
    found _ l.k c.loop-k-test.true (sym (first_fail_found _ 251 _ c.loop-k-test.true e) ∙ l.invariant.1)

pub loop-k-preserved : goal.loop-k-preserved
loop-k-preserved c =
    let l = c.loop-k in
    let e = sym (test_is _ l.k c.stands_after.ensures l.invariant.0) ∙ c.if-not-stands_after.false in
    (simp add-sub_cancel, sym (first_fail_next _ 251 _ c.loop-k-test.true e) ∙ l.invariant.1)

pub returns : goal.returns
unfolding fault
returns c = none_found _ (let z : c.loop-k.k ≡ 251 = omega arith in sym (c.loop-k.invariant.1) ∙ first_fail_end _ 251 _ (omega arith) ∙ z)
