-- What a chain over the verdicts and figures gives, with each check's number, and the length of their lines.
-- Assumes nothing.
use mathlib.Core.Path.{◌≡◌, refl, ap, subst}
use mathlib.Core.Logic.{◌⊎◌, inl, inr}
use mathlib.Core.List.{List, [], ◌∷◌}
use Prim.Native.Nat.{ℕ, ◌+◌, ◌-◌, ◌*◌, ◌≤◌, ◌<◌}
use native.Mathlib.Numerals.{add-one}
use native.Mathlib.Omega.{arith}
use denote.Ref.{Bor}
use lib.ListN.{length, length-append}
use Rattle.std.specs.Fn.{Mut, Called}
use Rattle.std.specs.Iterator.Adapters.{map_source, map_callee, map_steps}
use Rattle.std.specs.Iterator.Runs.{EachRunFrom}
use Rattle.std.specs.List.{zip, enumerate_from, fold, sum_by}
use Rattle.std.specs.Option.{MatchOption}
use Rattle.std.specs.Prelude.{Option, Some, None}
use Rattle.std.specs.declared.iter.Map.{Map}
use Rattle.std.specs.declared.iter.Zip.{Zip}
use Rattle.std.specs.declared.ops.RangeFrom.{RangeFrom}
use Rattle.std.proofs.Common.{Iter}
use Rattle.std.proofs.iter.Yields.{fronts}
use Rattle.std.proofs.lemmas.Iterator.{zips, YieldsList}
use Rattle.std.proofs.lemmas.Iterator.Adapters.{fits_from_length, at_most_from_yields_List}
use Rattle.std.proofs.lemmas.Iterator.Splits.{YieldsList-from_shown_while}
use Rattle.std.proofs.lemmas.List.Sums.{sum_by-cons}
use Rattle.section5.specs.Section5.{checks}
use Rattle.report.specs.Report.{check_line, check_lines}

-- the steps of the numbers, and of the whole chain
abbrev counts : RangeFrom ℕ → Option ℕ → RangeFrom ℕ → Type 0
counts s r t = MatchOption r ((18446744073709551615 - s.start ≡ 0) × (t ≡ s)) (λ x. (x ≡ s.start) × (t.start ≡ x + 1))

abbrev Counted : Type 0
Counted = Zip (RangeFrom ℕ) (Zip (Iter ℕ) (Iter ℕ))

abbrev counted : Counted → Option (ℕ × (Bor ℕ × Bor ℕ)) → Counted → Type 0
counted = zips counts (zips fronts fronts)

-- check, verdict, figure
abbrev seen : ℕ × (Bor ℕ × Bor ℕ) → ℕ × (ℕ × ℕ)
seen x = (x.0, (x.1.0.now, x.1.1.now))

-- what is left, where the numbers do not end before the checks
abbrev left : Counted → List (ℕ × (ℕ × ℕ))
left s = enumerate_from s.a.start (zip s.b.a.rest.now s.b.b.rest.now)

abbrev few : Counted → Type 0
few s = s.a.start + length s.b.a.rest.now ≤ checks + 1

ended : (xs ys : List ℕ) → (length xs ≡ 0) ⊎ (length ys ≡ 0) → (k : ℕ) → length (enumerate_from k (zip xs ys)) ≡ 0
ended [] ys h k = refl
ended (x ∷ xs) [] h k = refl
ended (x ∷ xs) (y ∷ ys) (inl h) k = absurd (omega arith)
ended (x ∷ xs) (y ∷ ys) (inr h) k = absurd (omega arith)

none : (s t : Counted) → few s → counted s None t → length (left s) ≡ 0
none s t p (inl u) = absurd (omega (arith, u.1.0, p))
none s t p (inr (u, inl w)) = ended s.b.a.rest.now s.b.b.rest.now (inl w.1.0) s.a.start
none s t p (inr (u, inr w)) = ended s.b.a.rest.now s.b.b.rest.now (inr w.1.0) s.a.start

some : (s : Counted) (x : ℕ × (Bor ℕ × Bor ℕ)) (t : Counted) → few s → counted s (Some x) t → few t × (left s ≡ seen x ∷ left t)
some s x t p u = (omega (arith, p, u.0.0, u.0.1, ap length u.1.0), rw (u.1.0, u.1.1, ← u.0.0, u.0.1) refl)

pub counted_all : (s : Counted) (vs fs : List ℕ) → s.a.start ≡ 1 → s.b.a.rest.now ≡ vs → s.b.b.rest.now ≡ fs → length vs ≡ checks → YieldsList counted seen s (enumerate_from 1 (zip vs fs))
counted_all s vs fs a b d l =
    let e : left s ≡ enumerate_from 1 (zip vs fs) = rw (a, b, d) refl in
    subst (YieldsList counted seen s) e (YieldsList-from_shown_while counted seen left few none some s (omega (arith, a, ap length b, l)))

pub counted_long : (vs fs : List ℕ) (k : ℕ) → length (enumerate_from k (zip vs fs)) ≤ length vs
counted_long [] fs k = omega arith
counted_long (v ∷ vs) [] k = omega arith
counted_long (v ∷ vs) (f ∷ fs) k = omega (arith, counted_long vs fs (k + 1))

-- the lines are as long together as each of them
abbrev pub line_length : ℕ × (ℕ × ℕ) → ℕ
line_length p = length (check_line p.0 p.1.0 p.1.1)

pub counted_lines : (vs fs : List ℕ) (k : ℕ) → sum_by line_length (enumerate_from k (zip vs fs)) ≡ length (check_lines k vs fs)
unfolding check_lines
counted_lines [] fs k = refl
counted_lines (v ∷ vs) [] k = refl
counted_lines (v ∷ vs) (f ∷ fs) k = rw (sum_by-cons, counted_lines vs fs (k + 1), length-append, add-one) refl

-- lines of at most 63 bytes are together at most 63 for each check
pub counted_below : {F : Type 0} {g : Mut F ((ℕ × (Bor ℕ × Bor ℕ)) × Unit {0}) ℕ} {s : Map Counted F} {f : F} (top : ℕ) (vs fs : List ℕ) → YieldsList counted seen (map_source s) (enumerate_from 1 (zip vs fs)) → length vs ≡ checks
    → map_callee s ≡ f → 63 * checks < top → ((x : ℕ × (Bor ℕ × Bor ℕ)) (r : ℕ) (q : F) → Called g f (x, tt) r q → (q ≡ f) × (r ≤ 63)) → EachRunFrom (map_steps counted g) s (λ p. fold (λ a x. a + x) 0 p.items < top)
counted_below {g = g} {f = f} top vs fs all l e h each =
    fits_from_length g f checks top (at_most_from_yields_List all (omega (arith, l, counted_long vs fs 1))) e (omega (arith, h)) (λ x r q k. let m = each x r q k in (m.0, omega (arith, m.1, h)))
