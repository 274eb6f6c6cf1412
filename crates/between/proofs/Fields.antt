-- What is refused of two jobs is the lowest field at which the order of demand 3 does not hold, and nothing where it holds.
-- Assumes nothing.
use mathlib.Core.Path.{◌≡◌, ◌∙◌, refl, ap}
use mathlib.Core.Bool.{Bool, true}
use mathlib.Core.List.{List, [], ◌∷◌}
use mathlib.Core.Logic.{◌↔◌, inl, inr, ⊎_elim}
use Prim.Native.Nat.{ℕ, zero, suc}
use native.Mathlib.Omega.{arith}
use lib.Dec.{T, eqb, leb}
use Rattle.std.proofs.Math.Facts.{eqb_yes, yes_eqb, leb_yes, yes_leb}
use lib.ListN.{length, get_or, set}
use Rattle.std.proofs.lemmas.List.{length-set}
use Rattle.basis.specs.Fraction.{◌≼◌}
use Rattle.basis.specs.Rows.{First, Refused, Follows}
use Rattle.basis.specs.declared.Refusal.TheVariants.{Disorder}
use Rattle.basis.proofs.Lowest.{Fails, lowest_none, lowest_is, lowest_every, set_passes}
use Rattle.basis.proofs.Rows.{refused_is}
use Rattle.job.specs.declared.Job.{Job}
use Rattle.job.specs.Job.{job_of, numbers}
use Rattle.job.proofs.Numbers.{numbers_job}
use Rattle.section5.specs.Section5.{soil_factor}
use Rattle.section5.specs.Harsher.{Harsher}
use Rattle.judge.proofs.Demand.{demand3}
use Rattle.between.specs.Order.{in_order, disorder, with_field, Disordered, Row, Told}

-- every test of a row passes, one by one and at any place
data All : List Bool → Type 0 where
  none : All []
  also : {test : Bool} {tests : List Bool} → T test → All tests → All (test ∷ tests)

all_at : (tests : List Bool) → All tests → (i : ℕ) → T (get_or tests i true)
all_at [] All.none i = tt
all_at (test ∷ tests) (All.also t h) zero = t
all_at (test ∷ tests) (All.also t h) (suc i) = all_at tests h i

module _ (m k : Job) where
  harsher_passes : Harsher m k → (i : ℕ) → T (get_or (in_order m k) i true)
  unfolding in_order
  harsher_passes h =
      all_at (in_order m k) (search (All.also, All.none, yes_eqb, yes_leb) depth 30)

  passes_harsher : ((i : ℕ) → T (get_or (in_order m k) i true)) → Harsher m k
  unfolding in_order
  passes_harsher h =
      record {
        family = eqb_yes (h 0);
        tube = eqb_yes (h 1);
        lb = leb_yes (h 2);
        la = leb_yes (h 3);
        step = leb_yes (h 4);
        ties = leb_yes (h 5);
        height = leb_yes (h 6);
        boards = eqb_yes (h 7);
        boarded = leb_yes (h 8);
        working = leb_yes (h 9);
        q = leb_yes (h 10);
        total = leb_yes (h 11);
        nets = leb_yes (h 12);
        weight = leb_yes (h 13);
        wind = leb_yes (h 14);
        exposure = leb_yes (h 15);
        enclosure = eqb_yes (h 16);
        shield = leb_yes (h 17);
        wall = eqb_yes (h 18);
        capacity = leb_yes (h 21);
        soil = h 22;
        strength = leb_yes (h 23);
        pad = leb_yes (h 24);
      }

-- the tests of two rows of numbers, place by place
abbrev both : List (ℕ → ℕ → Bool) → List ℕ → List ℕ → List Bool
both [] xs ys = []
both (t ∷ ts) [] ys = []
both (t ∷ ts) (x ∷ xs) [] = []
both (t ∷ ts) (x ∷ xs) (y ∷ ys) = t x y ∷ both ts xs ys

-- one number of the second row in the first is one test
both_set : (ts : List (ℕ → ℕ → Bool)) (xs ys : List ℕ) (i : ℕ) → length xs ≡ length ys → both ts xs (set xs i (get_or ys i 0)) ≡ set (both ts xs xs) i (get_or (both ts xs ys) i true)
both_set [] xs ys i e = refl
both_set (t ∷ ts) [] ys i e = refl
both_set (t ∷ ts) (x ∷ xs) [] i e = absurd (omega arith)
both_set (t ∷ ts) (x ∷ xs) (y ∷ ys) zero e = refl
both_set (t ∷ ts) (x ∷ xs) (y ∷ ys) (suc i) e = ap (λ (l : List Bool). t x x ∷ l) (both_set ts xs ys i (omega arith))

-- what is put in a row's place is read there
set_at : (row others : List Bool) (i : ℕ) → length row ≡ length others → T (get_or (set row i (get_or others i true)) i true) → T (get_or others i true)
set_at [] [] i e t = tt
set_at [] (y ∷ others) i e t = absurd (omega arith)
set_at (x ∷ row) [] i e t = tt
set_at (x ∷ row) (y ∷ others) zero e t = t
set_at (x ∷ row) (y ∷ others) (suc i) e t = set_at row others i (omega arith) t

-- what each field is tested by
tests : List (ℕ → ℕ → Bool)
tests =
    eqb ∷ eqb ∷ leb ∷ leb ∷ leb ∷ leb ∷ leb ∷ eqb ∷ leb ∷ leb ∷ leb ∷ leb ∷ leb ∷ leb ∷ leb ∷ leb ∷ eqb ∷ leb ∷ eqb ∷ free ∷ free
    ∷ fewer ∷ (λ a b. soil_factor b ≼ soil_factor a) ∷ fewer ∷ fewer ∷ []
  where
    free : ℕ → ℕ → Bool
    free a b = true

    fewer : ℕ → ℕ → Bool
    fewer a b = leb b a

in_order_both : (m k : Job) → in_order m k ≡ both tests (numbers m) (numbers k)
unfolding in_order numbers tests
in_order_both m k = refl

module _ (m k : Job) where
  one_field : (i : ℕ) → in_order m (with_field (suc i) k m) ≡ set (in_order m m) i (get_or (in_order m k) i true)
  unfolding with_field
  one_field i =
      in_order_both m (job_of (set (numbers m) i (get_or (numbers k) i 0)))
      ∙ rw (numbers_job (set (numbers m) i (get_or (numbers k) i 0)) long, in_order_both m m, in_order_both m k) (both_set tests (numbers m) (numbers k) i refl)
    where
      long : length (set (numbers m) i (get_or (numbers k) i 0)) ≡ 25
      long = length-set (numbers m) i (get_or (numbers k) i 0)

  as_long : length (in_order m m) ≡ length (in_order m k)
  unfolding in_order
  as_long = refl

  at_none : Harsher m (with_field zero k m)
  unfolding with_field
  at_none = demand3.reflexive m

  -- one field is in the order exactly where its test passes
  holds_at : (p : ℕ) → Harsher m (with_field p k m) ↔ T (get_or (true ∷ in_order m k) p true)
  holds_at zero = (λ h. tt, λ t. at_none)
  holds_at (suc i) = (
    λ h. set_at (in_order m m) (in_order m k) i as_long (rw (← one_field i) (harsher_passes m (with_field (suc i) k m) h i)),
    λ t. passes_harsher m (with_field (suc i) k m) (rw (one_field i) (set_passes (in_order m m) i (get_or (in_order m k) i true) t (harsher_passes m m (demand3.reflexive m)))),
  )

  -- so the first that is not is the first whose test fails
  first_fails : (p : ℕ) → First (Disordered m k) p → First (Fails (true ∷ in_order m k)) p
  unfolding Disordered
  first_fails p f = record { here = λ t. f.here ((holds_at p).1 t); before = λ i l d. f.before i l (λ h. d ((holds_at i).0 h)) }

  first_disordered : (p : ℕ) → First (Fails (true ∷ in_order m k)) p → First (Disordered m k) p
  unfolding Disordered
  first_disordered p f = record { here = λ h. f.here ((holds_at p).0 h); before = λ i l d. f.before i l (λ t. d ((holds_at i).1 t)) }

  follows : Follows (disorder m k) (Row m k) (Harsher m k)
  unfolding disorder
  follows =
      record {
        row = row;
        none = λ h. lowest_none Disorder (in_order m k) (counted h);
        every = ⊎_elim (λ h. inl (passes_harsher m k (λ i. h (suc i)))) (λ f. inr (12, (f.0, Row.unlike f.0 (first_disordered f.0 f.1)))) (lowest_every (true ∷ in_order m k));
      }
    where
      row : (n p : ℕ) → Row m k n p → Refused (disorder m k) n p
      row n p (Row.unlike q f) = refused_is (Disorder q) (lowest_is Disorder (in_order m k) q (first_fails q f))

      counted : Harsher m k → (p : ℕ) → T (get_or (true ∷ in_order m k) p true)
      counted h zero = tt
      counted h (suc i) = harsher_passes m k h i

pub told : Told
told = record { told = follows }
