-- Laws of the entries of a sheet's bytes: how many there are, and that what gives each of them gives them all.
-- Assumes nothing.
use mathlib.Core.Path.{◌≡◌, ◌∙◌, refl, sym, ap}
use mathlib.Core.List.{List, ◌∷◌, [], ◌++◌, map}
use Prim.Native.Nat.{ℕ, zero, suc, ◌+◌, ◌*◌}
use native.Mathlib.Omega.{arith}
use lib.ListN.{length, get_or, length-append}
use Rattle.std.specs.Array.{IsFromFnResult}
use Rattle.std.specs.Fn.{Mut, Called}
use Rattle.std.specs.List.{range_with_len}
use Rattle.std.proofs.lemmas.List.FromFn.{map-range_with_len_more}
use Rattle.basis.proofs.Made.{called_all}
use Rattle.sheet.specs.Bytes.{entry, entries}

pub entries_long : (bytes : List ℕ) (n : ℕ) → length (entries bytes n) ≡ n
unfolding entries
entries_long bytes zero = refl
entries_long bytes (suc n) = rw (length-append, entries_long bytes n) (omega arith)

-- entry k
abbrev pub entry_at : List ℕ → ℕ → ℕ
entry_at bytes k = entry (get_or bytes (2 * k) 0) (get_or bytes (2 * k + 1) 0)

entries_each : (bytes : List ℕ) (n : ℕ) → entries bytes n ≡ map (entry_at bytes) (range_with_len 0 n)
unfolding entries
entries_each bytes zero = refl
entries_each bytes (suc n) =
    let m : suc n ≡ n + 1 = omega arith in
    ap (λ (l : List ℕ). l ++ entry_at bytes n ∷ []) (entries_each bytes n) ∙ sym (map-range_with_len_more (entry_at bytes) 0 n n (omega arith)) ∙ ap (λ (k : ℕ). map (entry_at bytes) (range_with_len 0 k)) (sym m)

-- what gives each entry gives them all
pub entries_called : (bytes : List ℕ) {F : Type 0} (g : Mut F (ℕ × Unit {0}) ℕ) (f : F) → ((k r : ℕ) (q : F) → Called g f (k, tt) r q → (q ≡ f) × (r ≡ entry_at bytes k))
    → (xs : List ℕ) (n : ℕ) → IsFromFnResult g f xs n → xs ≡ entries bytes n
entries_called bytes g f h xs n r = called_all g (entry_at bytes) f h 0 xs n r ∙ sym (entries_each bytes n)
