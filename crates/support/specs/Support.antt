-- The support of 13 numbers, and the 13 numbers of a support.
-- Assumes nothing.
use Rattle.std.specs.Prelude.{ℕ, List, [], ◌∷◌, get_or}
use Rattle.support.specs.declared.Support.{Support}

unfoldable pub support_of : List ℕ → Support
support_of n =
    record {
      kind = get_or n 0 0;
      tube = get_or n 1 0;
      step = get_or n 2 0;
      overhang = get_or n 3 0;
      bay = get_or n 4 0;
      dead = get_or n 5 0;
      live = get_or n 6 0;
      wind = get_or n 7 0;
      exposure = get_or n 8 0;
      shape = get_or n 9 0;
      soil = get_or n 10 0;
      strength = get_or n 11 0;
      pad = get_or n 12 0;
    }

unfoldable pub numbers : Support → List ℕ
numbers s =
    s.kind ∷ s.tube ∷ s.step ∷ s.overhang ∷ s.bay ∷ s.dead ∷ s.live ∷ s.wind ∷ s.exposure ∷ s.shape ∷ s.soil ∷ s.strength ∷ s.pad ∷ []
