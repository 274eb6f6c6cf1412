-- A job that stands has each field in its range, so that its figures are bounded.
-- Assumes nothing.
use mathlib.Core.Bool.{Bool, true, false, cond}
use Prim.Native.Nat.{ℕ, ◌≤◌}
use native.Mathlib.Nat.{le_trans}
use lib.Dec.{T, eqb, eqb→eq, leb, lit≤}
use Rattle.basis.specs.Range.{within}
use Rattle.basis.proofs.Tests.{either_elim, within_le}
use Rattle.job.specs.declared.Job.{Job}
use Rattle.job.specs.Ranges.{lb_stands, height_stands, shield_stands, ranges}
use Rattle.job.specs.Rows.{Inside, Stands}
use Rattle.job.specs.Bounds.{Bounds}

cond_elim : {A : Type 0} (b c d : Bool) → (T c → A) → (T d → A) → T (cond b c d) → A
cond_elim true c d f g t = f t
cond_elim false c d f g t = g t

wider : (lo hi lo' hi' x : ℕ) → T (leb lo' lo) → T (leb hi hi') → T (within lo hi x) → (lo' ≤ x) × (x ≤ hi')
wider lo hi lo' hi' x s t w = let h = within_le lo hi x w in (le_trans (lit≤ s) h.0, le_trans h.1 (lit≤ t))

lb_within : (family lb : ℕ) → T (lb_stands family lb) → (60 ≤ lb) × (lb ≤ 155)
lb_within family lb =
    cond_elim (eqb family 1) _ _
    (either_elim (eqb lb 105) _ (one 105 tt) (either_elim (eqb lb 130) _ (one 130 tt) (one 155 tt)))
    (wider 60 150 60 155 lb tt tt)
  where
    one : (n : ℕ) → T (within 60 155 n) → T (eqb lb n) → (60 ≤ lb) × (lb ≤ 155)
    one n t e = rw (eqb→eq lb n e) (within_le 60 155 n t)

height_within : (family height : ℕ) → T (height_stands family height) → (1 ≤ height) × (height ≤ 5000)
height_within family height = cond_elim (eqb family 1) _ _ (within_le 1 5000 height) (wider 1 2400 1 5000 height tt tt)

shield_within : (enclosure shield : ℕ) → T (shield_stands enclosure shield) → (1 ≤ shield) × (shield ≤ 2000)
shield_within enclosure shield =
    cond_elim (eqb enclosure 1) _ _ (within_le 1 2000 shield)
    (cond_elim (eqb enclosure 2) _ _ (wider _ _ 1 2000 shield tt tt) (wider _ _ 1 2000 shield tt tt))

pub bounds : (j : Job) → Stands j → Bounds j
unfolding Inside ranges
bounds j h =
    let i = h.agrees.inside in
    record {
      family = (within_le 1 2 j.family (i 1)).1;
      tube = (within_le 1 2 j.tube (i 2)).1;
      lb = (lb_within j.family j.lb (i 3)).1;
      la = (within_le 60 200 j.la (i 4)).1;
      step = (within_le 60 200 j.step (i 5)).1;
      ties = (within_le 2 3 j.ties (i 6)).1;
      height = (height_within j.family j.height (i 7)).1;
      boards = (within_le 1 3 j.boards (i 8)).1;
      boarded = (within_le 1 10 j.boarded (i 9)).1;
      working = (within_le 1 9 j.working (i 10)).1;
      q = (within_le 0 10000 j.q (i 11)).1;
      total = (within_le 0 30000 j.total (i 12)).1;
      nets = (within_le 0 5000 j.nets (i 13)).1;
      weight = (within_le 50 500 j.weight (i 14)).1;
      wind = (within_le 0 2000 j.wind (i 15)).1;
      exposure = (within_le 100 4000 j.exposure (i 16)).1;
      enclosure = (within_le 1 3 j.enclosure (i 17)).1;
      shield = (shield_within j.enclosure j.shield (i 18)).1;
      wall = (within_le 1 2 j.wall (i 19)).1;
      thickness = (within_le 0 2000 j.thickness (i 20)).1;
      make = (within_le 1 3 j.make (i 21)).1;
      capacity = (within_le 8000 100000 j.capacity (i 22)).1;
      soil = (within_le 1 5 j.soil (i 23)).1;
      strength = (within_le 10 2000 j.strength (i 24)).1;
      pad = (within_le 100 10000 j.pad (i 25)).1;
      lb_pos = le_trans (lit≤ tt) (lb_within j.family j.lb (i 3)).0;
      la_pos = le_trans (lit≤ tt) (within_le 60 200 j.la (i 4)).0;
      weight_pos = le_trans (lit≤ tt) (within_le 50 500 j.weight (i 14)).0;
    }
