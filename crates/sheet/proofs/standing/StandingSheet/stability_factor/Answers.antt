-- `stability_factor` meets its contract. Assumes nothing.
use mathlib.Core.Path.{◌≡◌}
use mathlib.Core.List.{List}
use Prim.Native.Nat.{ℕ, ◌*◌, ◌%◌, ◌≤◌, ◌<◌}
use native.Mathlib.Nat.{le_trans, mul-le-mul}
use native.Mathlib.Omega.{arith}
use lib.ListN.{get_or}
use lib.Dec.{leb, lit≤}
use borrow.Author.Tests.{le-leb, lt-leb}
use Rattle.basis.proofs.Tests.{cond_below}
use Rattle.sheet.specs.Rows.{Stands}
use Rattle.sheet.specs.StabilityFactor.{below, above, between, line, over, under, Reading}
use Rattle.sheet.proofs.Falls.{stability_within}
use Rattle.sheet.proofs.standing.StandingSheet.stability_factor.Goals as goal

under_most : (z : ℕ) → z ≤ 2930 → under z ≤ 100000
unfolding under
under_most z l = let m : above z ≤ 293 = omega arith in cond_below (leb z 2500) (lit≤ tt) (le_trans (mul-le-mul m m) (lit≤ tt))

-- between the two entries that were read
over_line : (s : List ℕ) (z : ℕ) {a b x u : ℕ} → z ≤ 2500 → u ≡ above z → a ≡ get_or s (below z) 0 → b ≡ get_or s u 0 → x ≡ between a b (z % 10) → x ≡ over s z
unfolding line over
over_line s z l h e f g = rw (le-leb z 2500 l, g, e, f, h)

over_beyond : (s : List ℕ) (z : ℕ) → 2500 < z → 7320 ≡ over s z
unfolding over
over_beyond s z l = rw (lt-leb z 2500 l)

under_beyond : (z : ℕ) {u : ℕ} → 2500 < z → u ≡ above z → u * u ≡ under z
unfolding under
under_beyond z l e = rw (lt-leb z 2500 l, e)

-- its parts are those of the sheet, and with them it is above 0 and at most 1
reading : (s : List ℕ) (z : ℕ) {o u : ℕ} → Stands s → z ≤ 2930 → o ≡ over s z → u ≡ under z → Reading (record { over = o; under = u }) s z
reading s z h l e f =
    let w = stability_within s h z in
    record { over_is = e; over_pos = rw e w.0; under_is = f; under_most = rw f (under_most z l); at_most_one = rw (e, f) w.1 }

pub returns-then-z-le2500 : goal.returns-then-z-le2500
returns-then-z-le2500 c =
    let t = c.if-z-le2500.true in
    let o = over_line _ _ t (omega arith) c.from-from.ensures c.from-to.ensures c.between_of.ensures in
    rw (← c.self.view_is, ← c.z.view_is) (reading _ _ c.self.invariant c.z.invariant o (unfold under in simp (le-leb _ _ t)))

pub returns : goal.returns
returns c =
    let t = c.if-z-le2500.false in
    let u : c.div_ceil-above.result ≡ above c.z.inside.tenths = omega arith in
    rw (← c.self.view_is, ← c.z.view_is) (reading _ _ c.self.invariant c.z.invariant (over_beyond _ _ t) (under_beyond _ t u))
