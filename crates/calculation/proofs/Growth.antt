-- Each figure grows with the numbers that it rests on, and so from a job to a harsher one.
-- Assumes nothing.
use mathlib.Core.Path.{ap}
use Prim.Native.Nat.{ℕ, ◌*◌, ◌≤◌}
use lib.Dec.{T}
use Rattle.basis.specs.Fraction.{fractions, ◌≼◌}
use Rattle.basis.proofs.Order.{mono, ceil_grows}
use Rattle.basis.proofs.Tests.{tests}
use Rattle.job.specs.declared.Job.{Job}
use Rattle.section5.specs.Section5 as P
use Rattle.section5.specs.Harsher.{Harsher}
use Rattle.section5.proofs.LengthFactor.{length_factor_grows}
use Rattle.calculation.specs.Parts.{Load}
use Rattle.calculation.specs.Whole.{radius, soil_factor, ground_capacity, wind_pressure, wind_moment, wk, mw, deck, fittings, deck_live, load, force, force_wind, column_tenths, column_slenderness, transom_moment, transom_load, ledger_moment, ledger_load, slip, face, tie_force}
use Rattle.calculation.proofs.Slenderness.{rounded_tenths_grows}

pub wind_pressure_grows : {e e' f f' w w' : ℕ} → e ≤ e' → f ≤ f' → w ≤ w' → wind_pressure e f w ≤ wind_pressure e' f' w'
unfolding wind_pressure
wind_pressure_grows p q r = search mono depth 12

pub wind_moment_grows : {w w' a a' s s' : ℕ} → w ≤ w' → a ≤ a' → s ≤ s' → wind_moment w a s ≤ wind_moment w' a' s'
unfolding wind_moment
wind_moment_grows p q r = search mono depth 12

module _ {l m : Load} (d : l.dead ≤ m.dead) (v : l.live ≤ m.live) where
  pub force_of_grows : force l ≤ force m
  unfolding force
  force_of_grows = search mono depth 12

  pub force_wind_of_grows : force_wind l ≤ force_wind m
  unfolding force_wind
  force_wind_of_grows = search mono depth 12

pub capacity_falls : (soil soil' : ℕ) {strength strength' pad pad' : ℕ} → T (P.soil_factor soil' ≼ P.soil_factor soil) → strength' ≤ strength → pad' ≤ pad
    → ground_capacity soil' strength' pad' ≤ ground_capacity soil strength pad
capacity_falls soil soil' s p q = search (mono, factor_falls s) depth 12
  where
    factor_falls : T (P.soil_factor soil' ≼ P.soil_factor soil) → soil_factor soil' ≤ soil_factor soil
    factor_falls s = unfold ◌≼◌ fractions P.soil_factor in omega tests

module _ {j k : Job} (h : Harsher j k) where
  pub factor_grows : P.length_factor j.family j.lb j.ties ≤ P.length_factor k.family k.lb k.ties
  factor_grows = length_factor_grows h.family h.lb h.ties

  pub column_slenderness_grows : column_slenderness j ≤ column_slenderness k
  unfolding column_tenths column_slenderness
  column_slenderness_grows = rounded_tenths_grows (ceil_grows (search (mono, factor_grows) depth 12) (ap (λ (t : ℕ). 100 * radius t) h.tube))

  pub wk_grows : wk j ≤ wk k
  unfolding wk
  wk_grows = wind_pressure_grows h.exposure (search (mono, h.enclosure, h.wall) depth 12) h.wind

  pub mw_grows : mw j ≤ mw k
  unfolding mw
  mw_grows = wind_moment_grows wk_grows h.la h.step

  deck_grows : deck j.family j.lb ≤ deck k.family k.lb
  deck_grows = search (mono, h.family) depth 12

  fittings_grows : fittings j ≤ fittings k
  unfolding fittings
  fittings_grows = search (mono, deck_grows, h.boards) depth 12

  deck_live_grows : deck_live j ≤ deck_live k
  unfolding deck_live
  deck_live_grows = search (mono, deck_grows) depth 12

  pub force_grows : {H H' : ℕ} → H ≤ H' → force (load j H) ≤ force (load k H')
  unfolding load
  force_grows l = force_of_grows (search (mono, fittings_grows) depth 12) deck_live_grows

  pub force_wind_grows : {H H' : ℕ} → H ≤ H' → force_wind (load j H) ≤ force_wind (load k H')
  unfolding load
  force_wind_grows l = force_wind_of_grows (search (mono, fittings_grows) depth 12) deck_live_grows

  pub transom_moment_grows : transom_moment j ≤ transom_moment k
  unfolding transom_moment
  transom_moment_grows = search (mono, h.boards) depth 12

  pub transom_load_grows : transom_load j ≤ transom_load k
  unfolding transom_load
  transom_load_grows = search (mono, h.boards) depth 12

  pub ledger_moment_grows : ledger_moment j ≤ ledger_moment k
  unfolding ledger_moment
  ledger_moment_grows = search (mono, h.boards) depth 12

  pub ledger_load_grows : ledger_load j ≤ ledger_load k
  unfolding ledger_load
  ledger_load_grows = search (mono, h.boards) depth 12

  pub slip_grows : slip j ≤ slip k
  unfolding slip
  slip_grows = search (mono, h.boards) depth 12

  pub face_grows : face j.ties j.step j.la ≤ face k.ties k.step k.la
  face_grows = search mono depth 12

  pub tie_force_grows : tie_force j (wk j) ≤ tie_force k (wk k)
  unfolding tie_force
  tie_force_grows = search (mono, wk_grows, face_grows, h.family) depth 12
