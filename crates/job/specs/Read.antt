-- A job with its kinds read, and the job that it is.
-- Assumes nothing.
use Rattle.std.specs.Prelude.{◌≡◌, refl}
use Rattle.kinds.specs.Kinds.{family_number, tube_number, boards_number, enclosure_number, wall_number, soil_number, family_of, tube_of, boards_of, enclosure_of, wall_of, soil_of, family_back, tube_back, boards_back, enclosure_back, wall_back, soil_back}
use Rattle.job.specs.declared.Job.{Job}
use Rattle.job.specs.declared.bounded.BoundedJob.TheInside.{Inside}

-- the job of the fields, each kind by its number
abbrev pub job_in : Inside → Job
job_in s =
    record {
      family = family_number s.family;
      tube = tube_number s.tube;
      lb = s.lb;
      la = s.la;
      step = s.step;
      ties = s.ties;
      height = s.height;
      boards = boards_number s.boards;
      boarded = s.boarded;
      working = s.working;
      q = s.q;
      total = s.total;
      nets = s.nets;
      weight = s.weight;
      wind = s.wind;
      exposure = s.exposure;
      enclosure = enclosure_number s.enclosure;
      shield = s.shield;
      wall = wall_number s.wall;
      thickness = s.thickness;
      make = s.make;
      capacity = s.capacity;
      soil = soil_number s.soil;
      strength = s.strength;
      pad = s.pad;
    }

-- the fields of a job
abbrev pub fields_of : Job → Inside
fields_of j =
    record {
      family = family_of j.family;
      tube = tube_of j.tube;
      lb = j.lb;
      la = j.la;
      step = j.step;
      ties = j.ties;
      height = j.height;
      boards = boards_of j.boards;
      boarded = j.boarded;
      working = j.working;
      q = j.q;
      total = j.total;
      nets = j.nets;
      weight = j.weight;
      wind = j.wind;
      exposure = j.exposure;
      enclosure = enclosure_of j.enclosure;
      shield = j.shield;
      wall = wall_of j.wall;
      thickness = j.thickness;
      make = j.make;
      capacity = j.capacity;
      soil = soil_of j.soil;
      strength = j.strength;
      pad = j.pad;
    }

-- the job that a job is read as: itself where each kind's number is some kind's
abbrev pub as_read : Job → Job
as_read j = job_in (fields_of j)

-- nothing is lost between the two
pub fields_back : (s : Inside) → fields_of (job_in s) ≡ s
fields_back s = rw (family_back s.family, tube_back s.tube, boards_back s.boards, enclosure_back s.enclosure, wall_back s.wall, soil_back s.soil) refl
