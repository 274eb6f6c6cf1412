-- A support with its kinds read, and the support that it is.
-- Assumes nothing.
use Rattle.std.specs.Prelude.{◌≡◌, refl}
use Rattle.kinds.specs.Kinds.{tube_number, soil_number, tube_of, soil_of, tube_back, soil_back}
use Rattle.support.specs.declared.Support.{Support}
use Rattle.support.specs.declared.bounded.BoundedSupport.TheInside.{Inside}

-- the support of the fields, 3 and each kind by its number
abbrev pub support_in : Inside → Support
support_in s =
    record {
      kind = 3;
      tube = tube_number s.tube;
      step = s.step;
      overhang = s.overhang;
      bay = s.bay;
      dead = s.dead;
      live = s.live;
      wind = s.wind;
      exposure = s.exposure;
      shape = s.shape;
      soil = soil_number s.soil;
      strength = s.strength;
      pad = s.pad;
    }

-- the fields of a support
abbrev pub fields_of : Support → Inside
fields_of s =
    record {
      tube = tube_of s.tube;
      step = s.step;
      overhang = s.overhang;
      bay = s.bay;
      dead = s.dead;
      live = s.live;
      wind = s.wind;
      exposure = s.exposure;
      shape = s.shape;
      soil = soil_of s.soil;
      strength = s.strength;
      pad = s.pad;
    }

-- the support that a support is read as: itself where its first number is 3 and each kind's number is some kind's
abbrev pub as_read : Support → Support
as_read s = support_in (fields_of s)

-- nothing is lost between the two
pub fields_back : (s : Inside) → fields_of (support_in s) ≡ s
fields_back s = rw (tube_back s.tube, soil_back s.soil) refl
