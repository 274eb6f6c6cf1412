-- What `array::from_fn` makes: what gives each of its entries gives them all.
-- Assumes nothing.
use mathlib.Core.Path.{◌≡◌, ◌∙◌, subst}
use mathlib.Core.List.{List, map}
use Prim.Native.Nat.{ℕ, zero, suc, ◌+◌, ◌<◌}
use native.Mathlib.Omega.{arith}
use lib.ListN.{get_or}
use Rattle.std.specs.Array.{IsFromFnResult, IsFromFnResultFrom}
use Rattle.std.specs.Fn.{Mut, Called}
use Rattle.std.specs.List.{range_with_len}
use Rattle.std.proofs.lemmas.List.FromFn.{fill_by_all}

-- a call for each, none of which changes what is called; e is any entry
module _ {F X : Type 0} (g : Mut F (ℕ × Unit {0}) X) (v : ℕ → X) (f : F) (h : (k : ℕ) (r : X) (q : F) → Called g f (k, tt) r q → (q ≡ f) × (r ≡ v k)) (e : X) where
  called_each : (xs : List X) (n i k j : ℕ) → i + k ≡ j → IsFromFnResultFrom g f xs i n → k < n → get_or xs j e ≡ v j
  called_each xs zero i k j d c l = absurd (omega arith)
  called_each xs (suc n) i zero j d c l = let z : j ≡ i = omega arith in rw z (c.2.1 e ∙ (h i c.1 c.0 c.3).1)
  called_each xs (suc n) i (suc k) j d c l = called_each xs n (i + 1) k j (omega arith) (subst (λ (y : F). IsFromFnResultFrom g y xs (i + 1) n) (h i c.1 c.0 c.3).0 c.4) (omega arith)

  pub called_all : (xs : List X) (n : ℕ) → IsFromFnResult g f xs n → xs ≡ map v (range_with_len 0 n)
  called_all xs n r = fill_by_all v xs n e r.long (λ k l. called_each xs n 0 k k (omega arith) r.each l)
