-- `write_number` meets its contract. Assumes nothing.
use mathlib.Core.Path.{◌∙◌, refl, sym}
use native.Mathlib.Numerals.{add-one}
use native.Mathlib.Omega.{arith}
use Rattle.groups.specs.Encode.{encode}
use Rattle.groups.proofs.Encode.{encode_some, last_at, more_at}
use Rattle.groups.proofs.Front.{front_suc, front_all}
use Rattle.groups.proofs.write_number.Goals as goal

pub loop-x-init : goal.loop-x-init
loop-x-init c = (refl, refl, omega (arith, c.ranges.n), encode_some _)

pub loop-x-preserved : goal.loop-x-preserved
loop-x-preserved c =
    let l = c.loop-x in
    let f = more_at _ _ _ l.invariant.1 l.invariant.3 l.invariant.2 c.loop-x-test.true in
    (rw (add-one, l.invariant.0, ← f.0) (front_suc _ _ _ (omega (arith, c.requires)) l.invariant.3), rw add-one f.1, omega arith, omega (arith, f.2))

pub returns-clause-returned : goal.returns-clause-returned
returns-clause-returned c = omega (arith, (last_at _ _ _ c.loop-x.invariant.1 c.loop-x.invariant.3 c.loop-x-test.false).1)

pub returns-clause-buffer : goal.returns-clause-buffer
returns-clause-buffer c =
    let l = c.loop-x in
    let f = last_at _ _ _ l.invariant.1 l.invariant.3 c.loop-x-test.false in
    rw (l.invariant.0, ← f.0) (front_suc _ _ _ (omega (arith, c.requires)) l.invariant.3 ∙ front_all c.args.out.now (encode c.args.n) _ (sym f.1))
