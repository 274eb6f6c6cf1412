-- Laws of a row of tests: the lowest place at which one fails, one row after another, and another test in the place of one.
-- Assumes nothing.
use mathlib.Core.Path.{◌≡◌, ◌∙◌, refl, ap}
use mathlib.Core.Bool.{Bool, true, false}
use mathlib.Core.List.{List, [], ◌∷◌, ◌++◌}
use mathlib.Core.Logic.{◌⊎◌, inl, inr, ⊎_elim}
use Prim.Native.Nat.{ℕ, zero, suc, ◌+◌, ◌<◌}
use native.Mathlib.Nat.{zero-add}
use native.Mathlib.Omega.{arith}
use lib.Dec.{T}
use lib.ListN.{length, get_or, set}
use Rattle.std.specs.Prelude.{Err}
use Rattle.basis.specs.Rows.{First}
use Rattle.basis.specs.Range.{lowest}
use Rattle.basis.specs.Refusal.{nothing, first}
use Rattle.basis.specs.declared.Refusal.{Refusal}
use Rattle.basis.proofs.Refusals.{unless_pass}

-- the test at place i fails; there is none after the last
abbrev pub Fails : List Bool → ℕ → Type 0
Fails tests i = T (get_or tests i true) → ⊥

pub lowest_all : (refusal : ℕ → Refusal) (place : ℕ) (tests : List Bool) → ((i : ℕ) → T (get_or tests i true)) → lowest refusal place tests ≡ nothing
lowest_all refusal place [] h = refl
lowest_all refusal place (true ∷ tests) h = lowest_all refusal (suc place) tests (λ i. h (suc i))
lowest_all refusal place (false ∷ tests) h = absurd (h 0)

pub lowest_first : (refusal : ℕ → Refusal) (place k : ℕ) (tests : List Bool) → First (Fails tests) k → lowest refusal place tests ≡ Err (refusal (place + k))
lowest_first refusal place k [] f = absurd (f.here tt)
lowest_first refusal place zero (true ∷ tests) f = absurd (f.here tt)
lowest_first refusal place (suc k) (true ∷ tests) f =
    lowest_first refusal (suc place) k tests (record { here = f.here; before = λ i l. f.before (suc i) (omega arith) }) ∙ ap (λ n. Err (refusal n)) (omega arith)
lowest_first refusal place zero (false ∷ tests) f = ap (λ n. Err (refusal n)) (omega arith)
lowest_first refusal place (suc k) (false ∷ tests) f = absurd (f.before 0 (omega arith) (λ t. t))

-- places counted from 1
pub lowest_none : (refusal : ℕ → Refusal) (tests : List Bool) → ((p : ℕ) → T (get_or (true ∷ tests) p true)) → lowest refusal 1 tests ≡ nothing
lowest_none refusal tests h = lowest_all refusal 1 tests (λ i. h (suc i))

pub lowest_is : (refusal : ℕ → Refusal) (tests : List Bool) (p : ℕ) → First (Fails (true ∷ tests)) p → lowest refusal 1 tests ≡ Err (refusal p)
lowest_is refusal tests p f = lowest_first refusal 0 p (true ∷ tests) f ∙ ap (λ n. Err (refusal n)) (zero-add p)

-- where nothing is refused each test passes
pub lowest_passes : (refusal : ℕ → Refusal) (place : ℕ) (tests : List Bool) → lowest refusal place tests ≡ nothing → (i : ℕ) → T (get_or tests i true)
lowest_passes refusal place [] e i = tt
lowest_passes refusal place (test ∷ tests) e zero = (unless_pass test _ _ _ e).0
lowest_passes refusal place (test ∷ tests) e (suc i) = lowest_passes refusal (suc place) tests (unless_pass test _ _ _ e).1 i

-- a row of tests after another
pub lowest_append : (refusal : ℕ → Refusal) (place : ℕ) (tests more : List Bool) → lowest refusal place (tests ++ more) ≡ first (lowest refusal place tests) (lowest refusal (place + length tests) more)
lowest_append refusal place [] more = ap (λ n. lowest refusal n more) (omega arith)
lowest_append refusal place (true ∷ tests) more = lowest_append refusal (suc place) tests more ∙ ap (λ n. first (lowest refusal (suc place) tests) (lowest refusal n more)) (omega arith)
lowest_append refusal place (false ∷ tests) more = refl

-- no test fails, or there is a first that does
pub lowest_every : (tests : List Bool) → ((i : ℕ) → T (get_or tests i true)) ⊎ ((k : ℕ) × First (Fails tests) k)
lowest_every [] = inl (λ i. tt)
lowest_every (true ∷ tests) = ⊎_elim (λ h. inl (all h)) (λ f. inr (suc f.0, later f.0 f.1)) (lowest_every tests)
  where
    all : ((i : ℕ) → T (get_or tests i true)) → (i : ℕ) → T (get_or (true ∷ tests) i true)
    all h zero = tt
    all h (suc i) = h i

    none : (k : ℕ) → First (Fails tests) k → (i : ℕ) → i < suc k → Fails (true ∷ tests) i → ⊥
    none k f zero l t = t tt
    none k f (suc i) l t = f.before i (omega arith) t

    later : (k : ℕ) → First (Fails tests) k → First (Fails (true ∷ tests)) (suc k)
    later k f = record { here = f.here; before = none k f }
lowest_every (false ∷ tests) = inr (0, record { here = λ t. t; before = λ i l. absurd (omega arith) })

-- a row of tests that pass, with another that passes at place k
pub set_passes : (tests : List Bool) (k : ℕ) (test : Bool) → T test → ((i : ℕ) → T (get_or tests i true)) → (i : ℕ) → T (get_or (set tests k test) i true)
set_passes [] k test t h i = tt
set_passes (x ∷ tests) zero test t h zero = t
set_passes (x ∷ tests) zero test t h (suc i) = h (suc i)
set_passes (x ∷ tests) (suc k) test t h zero = h 0
set_passes (x ∷ tests) (suc k) test t h (suc i) = set_passes tests k test t (λ m. h (suc m)) i
