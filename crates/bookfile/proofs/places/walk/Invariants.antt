-- The place is that of the numbers done, and what is refused of those left is what is refused of all. Assumes nothing.
use Prim.Native.Nat.{◌-◌}
use mathlib.Core.Path.{◌≡◌}
use lib.ListN.{drop}
use Rattle.groups.specs.Numbers.{damage}
use Rattle.bookfile.specs.Places.{place_of}
use Rattle.bookfile.proofs.places.walk.Given as goal

abbrev pub invariant-loop : goal.invariant-loop
invariant-loop l =
    (l.place ≡ place_of l.book l.at l.counter) × (damage l.n l.at (drop l.at l.book) ≡ damage (l.n - l.counter) l.place (drop l.place l.book))
