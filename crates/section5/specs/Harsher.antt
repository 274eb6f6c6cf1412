-- The order of demand 3: the second job is no milder than the first. And that of supports.
-- Assumes nothing.
use Rattle.std.specs.Prelude.{◌≤◌, ◌≡◌, T}
use Rattle.basis.specs.Fraction.{◌≼◌}
use Rattle.job.specs.declared.Job.{Job}
use Rattle.support.specs.declared.Support.{Support}
use Rattle.section5.specs.Section5.{soil_factor}

-- fields 1, 2, 8, 17 and 19 equal; 3 to 7, 9 to 16 and 18 no smaller; 22, 24, 25 and the soil factor of 23 no greater; 20 and 21 free
pub record Harsher (j k : Job) : Type 0 where
  pub family : j.family ≡ k.family
  pub tube : j.tube ≡ k.tube
  pub boards : j.boards ≡ k.boards
  pub enclosure : j.enclosure ≡ k.enclosure
  pub wall : j.wall ≡ k.wall
  pub lb : j.lb ≤ k.lb
  pub la : j.la ≤ k.la
  pub step : j.step ≤ k.step
  pub ties : j.ties ≤ k.ties
  pub height : j.height ≤ k.height
  pub boarded : j.boarded ≤ k.boarded
  pub working : j.working ≤ k.working
  pub q : j.q ≤ k.q
  pub total : j.total ≤ k.total
  pub nets : j.nets ≤ k.nets
  pub weight : j.weight ≤ k.weight
  pub wind : j.wind ≤ k.wind
  pub exposure : j.exposure ≤ k.exposure
  pub shield : j.shield ≤ k.shield
  pub capacity : k.capacity ≤ j.capacity
  pub soil : T (soil_factor k.soil ≼ soil_factor j.soil)
  pub strength : k.strength ≤ j.strength
  pub pad : k.pad ≤ j.pad

-- supports: tube equal; step, overhang, bay, dead and live load and the wind's numbers no smaller; strength, pad and the soil factor no greater.
-- Document 02 asks it of supports that are alike but for loads and ground; each field of the rest may be equal
pub record HarsherSupport (s t : Support) : Type 0 where
  pub tube : s.tube ≡ t.tube
  pub step : s.step ≤ t.step
  pub overhang : s.overhang ≤ t.overhang
  pub bay : s.bay ≤ t.bay
  pub dead : s.dead ≤ t.dead
  pub live : s.live ≤ t.live
  pub wind : s.wind ≤ t.wind
  pub exposure : s.exposure ≤ t.exposure
  pub shape : s.shape ≤ t.shape
  pub soil : T (soil_factor t.soil ≼ soil_factor s.soil)
  pub strength : t.strength ≤ s.strength
  pub pad : t.pad ≤ s.pad
