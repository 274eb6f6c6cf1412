-- What each of the fourteen numbers is.
-- Assumes nothing.
use mathlib.Core.Path.{◌≡◌, ◌∙◌, refl}
use mathlib.Core.List.{[], ◌∷◌, map}
use mathlib.Core.Logic.{◌↔◌, ◌⊎◌, inl, inr}
use Prim.Native.Nat.{ℕ, ◌<◌}
use native.Mathlib.Omega.{arith}
use lib.ListN.{length, get_or, get_or-append}
use Rattle.std.specs.List.{range_with_len}
use Rattle.std.proofs.lemmas.List.FromFn.{get_or-map-range_with_len}
use Rattle.section5.specs.Section5.{checks}
use Rattle.between.specs.declared.Between.{Between}
use Rattle.between.specs.declared.Outcome.{Outcome}
use Rattle.between.specs.declared.Outcome.TheVariants.{PassesThroughout, FailsThroughout, Undecided}
use Rattle.between.specs.Outcome.{number}
use Rattle.between.specs.Between.{outcome_at, height_number, numbers}

module _ (b : Between) where
  pub fourteen : length (numbers b) ≡ 14
  unfolding numbers
  fourteen = refl

  pub check_number : (i : ℕ) → i < checks → get_or (numbers b) i 0 ≡ number (outcome_at b i)
  unfolding numbers
  check_number i l =
      get_or-append (map (λ n. number (outcome_at b n)) (range_with_len 0 checks)) (height_number b.mild ∷ height_number b.harsh ∷ []) 0 i l
      ∙ get_or-map-range_with_len (λ n. number (outcome_at b n)) 0 checks i i 0 l (omega arith)

  pub mild_number : get_or (numbers b) 12 0 ≡ height_number b.mild
  unfolding numbers
  mild_number = refl

  pub harsh_number : get_or (numbers b) 13 0 ≡ height_number b.harsh
  unfolding numbers
  harsh_number = refl

-- each case has a number of its own
pub one_of : (o : Outcome) → (number o ≡ 1) ⊎ ((number o ≡ 2) ⊎ (number o ≡ 3))
one_of PassesThroughout = inl refl
one_of FailsThroughout = inr (inl refl)
one_of Undecided = inr (inr refl)

pub number_1 : (o : Outcome) → number o ≡ 1 → o ≡ PassesThroughout
number_1 PassesThroughout e = refl
number_1 FailsThroughout e = absurd (omega arith)
number_1 Undecided e = absurd (omega arith)

pub number_2 : (o : Outcome) → number o ≡ 2 → o ≡ FailsThroughout
number_2 PassesThroughout e = absurd (omega arith)
number_2 FailsThroughout e = refl
number_2 Undecided e = absurd (omega arith)

pub number_3 : (o : Outcome) → (number o ≡ 3) ↔ (o ≡ Undecided)
number_3 PassesThroughout = (λ e. absurd (omega arith), λ e. absurd (cc))
number_3 FailsThroughout = (λ e. absurd (omega arith), λ e. absurd (cc))
number_3 Undecided = (λ e. refl, λ e. refl)
