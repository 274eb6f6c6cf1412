-- `effects_of` meets its contract. Assumes nothing.
use mathlib.Core.Path.{◌≡◌}
use mathlib.Core.Bool.{Bool}
use Prim.Native.Nat.{ℕ}
use Rattle.job.specs.declared.Job.{Job}
use Rattle.section5.specs.Section5.{N, Nw}
use Rattle.calculation.specs.Whole.{shape, wind_pressure, wind_moment, wk, mw, not_due, effects}
use Rattle.calculation.proofs.Same.{N_same, Nw_same}
use Rattle.calculation.proofs.effects.effects_of.Goals as goal

-- the parts as the code works them out, of the job k, which is j
gathered : {j k : Job} {form w m n nw : ℕ} {exempt : Bool}
    → k ≡ j → form ≡ shape k.enclosure k.wall k.shield → w ≡ wind_pressure k.exposure form k.wind
    → m ≡ wind_moment w k.la k.step → n ≡ N j j.height → nw ≡ Nw j j.height → exempt ≡ not_due j
    → record { wk = w; mw = m; n = n; nw = nw; not_due = exempt } ≡ effects j
unfolding effects wk mw
gathered {j = j} e ef ew em en enw ex = rw (ex, en, enw, N_same j j.height, Nw_same j j.height, em, ew, ef, e)

pub returns : goal.returns
returns c = gathered c.j.view_is c.enclosure_shape-shape.ensures.is c.wind_pressure-wk.ensures.is c.wind_moment.ensures.is c.pole_force.ensures c.pole_force_wind.ensures c.check8_not_due.ensures
