-- The sums of clause 5.3.2 in whole numbers: each from the one before, and N and Nw from the last.
-- Assumes nothing.
use mathlib.Core.Path.{◌≡◌, sym, ◌∙◌}
use Prim.Native.Nat.{ℕ, ◌+◌, ◌*◌}
use lib.Dec.{lit<}
use native.Mathlib.Omega.{arith}
use Rattle.std.specs.Int.{div_ceil}
use Rattle.basis.specs.Fraction.{Equals, fractions}
use Rattle.basis.proofs.Scale.{up_is}
use Rattle.basis.proofs.Tests.{cases}
use Rattle.job.specs.declared.Job.{Job}
use Rattle.section5.specs.Section5 as P
use Rattle.section5.specs.PoleForce.{after_structure, after_fittings, after_live_wind}
use Rattle.calculation.specs.Whole as W
use Rattle.calculation.proofs.Ceil.{up}

module _ (j : Job) (H : ℕ) where
  pub structure_is : {w h : ℕ} → w ≡ j.weight → h ≡ H → Equals (P.G1 j H) (200 * w * h) 20000
  unfolding fractions P.given P.G1
  structure_is e f = rw (e, f) (omega arith)

  pub after_structure_is : {g : ℕ} → Equals (P.G1 j H) g 20000 → Equals (after_structure j H) (12 * g) 200000
  unfolding fractions P.given P.G1 after_structure
  after_structure_is q = omega arith

  pub after_fittings_is : {s f : ℕ} → Equals (after_structure j H) s 200000 → f ≡ W.fittings j → Equals (after_fittings j H) (s + 12 * f) 200000
  unfolding fractions P.given P.b P.G1 P.G2 W.fittings after_structure after_fittings
  after_fittings_is = cases (P.double j) (λ d. rw d (λ q e. omega arith)) (λ d. rw d (λ q e. omega arith))

  pub after_live_is : {s l : ℕ} → Equals (after_fittings j H) s 200000 → l ≡ W.deck_live j → Equals (P.exact_N j H) (s + 14 * l) 200000
  unfolding fractions P.given P.b P.G1 P.G2 P.L P.exact_N W.deck_live after_fittings
  after_live_is = cases (P.double j) (λ d. rw d (λ q e. omega arith)) (λ d. rw d (λ q e. omega arith))

  pub after_live_wind_is : {s l : ℕ} → Equals (after_fittings j H) s 200000 → l ≡ W.deck_live j → Equals (after_live_wind j H) (100 * s + 85 * 14 * l) 20000000
  unfolding fractions P.given P.b P.G1 P.G2 P.L W.deck_live after_fittings after_live_wind
  after_live_wind_is = cases (P.double j) (λ d. rw d (λ q e. omega arith)) (λ d. rw d (λ q e. omega arith))

  -- 0.85 × 1.4 is 1.19
  pub exact_Nw_is : {r : ℕ} → Equals (after_live_wind j H) r 20000000 → Equals (P.exact_Nw j H) r 20000000
  unfolding fractions P.given P.b P.G1 P.G2 P.L P.exact_Nw after_live_wind
  exact_Nw_is = cases (P.double j) (λ d. rw d (λ q. omega arith)) (λ d. rw d (λ q. omega arith))

  pub N_is : {s r : ℕ} → Equals (P.exact_N j H) s 200000 → r ≡ div_ceil s 200000 → r ≡ P.N j H
  unfolding P.N
  N_is q e = up _ _ (lit< tt) e ∙ sym (up_is _ _ _ q)

  pub Nw_is : {s r : ℕ} → Equals (P.exact_Nw j H) s 20000000 → r ≡ div_ceil s 20000000 → r ≡ P.Nw j H
  unfolding P.Nw
  Nw_is q e = up _ _ (lit< tt) e ∙ sym (up_is _ _ _ q)
