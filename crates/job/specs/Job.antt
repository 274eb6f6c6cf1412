-- The job of 25 numbers, and the 25 numbers of a job.
-- Assumes nothing.
use Rattle.std.specs.Prelude.{ℕ, List, [], ◌∷◌, get_or}
use Rattle.job.specs.declared.Job.{Job}

unfoldable pub job_of : List ℕ → Job
job_of n =
    record {
      family = get_or n 0 0;
      tube = get_or n 1 0;
      lb = get_or n 2 0;
      la = get_or n 3 0;
      step = get_or n 4 0;
      ties = get_or n 5 0;
      height = get_or n 6 0;
      boards = get_or n 7 0;
      boarded = get_or n 8 0;
      working = get_or n 9 0;
      q = get_or n 10 0;
      total = get_or n 11 0;
      nets = get_or n 12 0;
      weight = get_or n 13 0;
      wind = get_or n 14 0;
      exposure = get_or n 15 0;
      enclosure = get_or n 16 0;
      shield = get_or n 17 0;
      wall = get_or n 18 0;
      thickness = get_or n 19 0;
      make = get_or n 20 0;
      capacity = get_or n 21 0;
      soil = get_or n 22 0;
      strength = get_or n 23 0;
      pad = get_or n 24 0;
    }

unfoldable pub numbers : Job → List ℕ
numbers j =
    j.family ∷ j.tube ∷ j.lb ∷ j.la ∷ j.step ∷ j.ties ∷ j.height ∷ j.boards ∷ j.boarded ∷ j.working ∷ j.q ∷ j.total ∷ j.nets
    ∷ j.weight ∷ j.wind ∷ j.exposure ∷ j.enclosure ∷ j.shield ∷ j.wall ∷ j.thickness ∷ j.make ∷ j.capacity ∷ j.soil ∷ j.strength ∷ j.pad ∷ []
