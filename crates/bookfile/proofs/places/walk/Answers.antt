-- `walk` meets its contract. Assumes nothing.
use Rattle.std.proofs.Common.{◌≡◌, ◌∙◌, ap, sym, Err, arith, rules}
use Rattle.bookfile.specs.Places.{place_in}
use Rattle.bookfile.proofs.Numbers.{place_stays}
use Rattle.bookfile.proofs.places.walk.Goals as goal

pub returns-in_err-k-clause-place : goal.returns-in_err-k-clause-place
returns-in_err-k-clause-place c =
    let r : c.from_residual.result ≡ Err c.loop.place = search rules in
    ap place_in r ∙ place_stays _ _ _ _ _ c.loop.invariant.0 (sym c.number_at.ensures ∙ c.in_err-k.ensures.ok_part) (omega (arith, c.loop-test.true))
