-- A support that stands has each field in its range, so that its figures are bounded.
-- Assumes nothing.
use native.Mathlib.Nat.{le_antisymm}
use Rattle.basis.proofs.Tests.{within_le}
use Rattle.support.specs.declared.Support.{Support}
use Rattle.support.specs.Rows.{Inside, Stands}
use Rattle.support.specs.Bounds.{Bounds}

pub bounds : (s : Support) → Stands s → Bounds s
unfolding Inside
bounds s h =
    let i = h.inside in
    let k = within_le 3 3 s.kind (i 1) in
    record {
      kind = le_antisymm k.1 k.0;
      tube = (within_le 1 2 s.tube (i 2)).1;
      step = (within_le 60 200 s.step (i 3)).1;
      overhang = (within_le 0 100 s.overhang (i 4)).1;
      bay = (within_le 60 200 s.bay (i 5)).1;
      dead = (within_le 0 60000 s.dead (i 6)).1;
      live = (within_le 0 60000 s.live (i 7)).1;
      wind = (within_le 0 2000 s.wind (i 8)).1;
      exposure = (within_le 100 4000 s.exposure (i 9)).1;
      shape = (within_le 0 2000 s.shape (i 10)).1;
      soil = (within_le 1 5 s.soil (i 11)).1;
      strength = (within_le 10 2000 s.strength (i 12)).1;
      pad = (within_le 100 10000 s.pad (i 13)).1;
    }
