-- What is refused of a file's numbers is what the table says: row by row, and where none applies.
-- Assumes nothing.
use Prim.Native.Nat.{ℕ, zero, suc, ◌+◌, ◌-◌, ◌<◌}
use mathlib.Core.Path.{◌≡◌, ◌∙◌, refl, sym, ap}
use mathlib.Core.List.{List, [], ◌∷◌, ◌++◌, append-nil, append_assoc}
use mathlib.Core.Logic.{◌⊎◌, inl, inr, ⊎_elim}
use native.Mathlib.Nat.{zero-add}
use native.Mathlib.Omega.{arith}
use lib.ListN.{length, drop}
use lib.Seq.{get_or-drop}
use Rattle.basis.specs.Refusal.{nothing}
use Rattle.std.specs.Prelude.{Err}
use Rattle.basis.specs.declared.Refusal.TheVariants.{Damaged, Trailing}
use Rattle.basis.specs.Rows.{Some, Refused}
use Rattle.basis.proofs.Rows.{refused_is}
use Rattle.groups.specs.Encode.{encode, encode_all}
use Rattle.groups.specs.Decode.{Bytes, decode}
use Rattle.groups.specs.Numbers.{extra, damage, values}
use Rattle.groups.specs.Rows.{Starts, Row, Holds, Told}
use Rattle.groups.specs.Rows as Table
use Rattle.groups.proofs.Decode.{decoded, decode_within}
use Rattle.groups.proofs.Numbers.{number_front}
use Rattle.groups.proofs.Reading.{damage_here}
use Rattle.groups.proofs.Files.{damage_after, damage_back, values_back}
use Rattle.groups.proofs.Damaged.{damaged_unread, unread_damaged}

row_is : (count : ℕ) (file : List ℕ) (n p : ℕ) → Row count file n p → Refused (damage count 0 file) n p
unfolding extra
row_is count file n p (Row.damaged ns rest s l d) =
    let m : count ≡ length ns + suc (count - suc (length ns)) = omega arith in
    refused_is (Damaged (length (encode_all ns)))
    (rw (s.is, m, damage_after ns (suc (count - suc (length ns))) 0 rest s.narrow, zero-add) (damage_here _ _ rest (damaged_unread rest d)))
row_is count file n p (Row.trailing ns rest s e h) = refused_is (Trailing (length (encode_all ns))) (rw (s.is, ← e, damage_back ns 0 rest s.narrow, zero-add) (go rest h))
  where
    go : (rest : List ℕ) → 0 < length rest → extra (length (encode_all ns)) rest ≡ Err (Trailing (length (encode_all ns)))
    go [] h = absurd (omega arith)
    go (b ∷ bs) h = refl

pub none_is : (count : ℕ) (file ns : List ℕ) → Holds count file ns → damage count 0 file ≡ nothing
unfolding extra
none_is count file ns h = rw (h.is, ← h.long) (rw append-nil at (damage_back ns 0 [] h.narrow))

-- the values of a file are the numbers that it holds
pub holds_values : (count : ℕ) (file ns : List ℕ) → Holds count file ns → values count file ≡ ns
holds_values count file ns h = rw (h.is, ← h.long) (rw append-nil at (values_back ns [] h.narrow))

-- the numbers at the front of a file, up to the count or the first damaged one
record Parsed (count : ℕ) (file : List ℕ) : Type 0 where
  ns : List ℕ
  rest : List ℕ
  starts : Starts file ns rest
  stops : (length ns ≡ count) ⊎ ((length ns < count) × Table.Damaged rest)

parsed : (count : ℕ) (file : List ℕ) → Bytes file → Parsed count file
unfolding encode_all
parsed zero file w = record { ns = []; rest = file; starts = record { is = refl; narrow = tt }; stops = inl refl }
parsed (suc n) file w =
    decoded (decode file)
    (λ v k e.
    let q = parsed n (drop k file) (λ i. rw get_or-drop (w (k + i))) in
    record {
      ns = v ∷ q.ns;
      rest = q.rest;
      starts = record { is = number_front v k file w e ∙ ap (λ (x : List ℕ). encode v ++ x) q.starts.is ∙ sym (append_assoc (encode v) (encode_all q.ns) q.rest); narrow = ((decode_within file v k e).value, q.starts.narrow) };
      stops = ⊎_elim (λ l. inl (ap suc l)) (λ d. inr (omega (arith, d.0), d.1)) q.stops;
    })
    (λ e. record { ns = []; rest = file; starts = record { is = refl; narrow = tt }; stops = inr (omega arith, unread_damaged file e) })

every_is : (count : ℕ) (file : List ℕ) → Bytes file → ((ns : List ℕ) × Holds count file ns) ⊎ Some (Row count file)
every_is count file w = go (parsed count file w).ns (parsed count file w).rest (parsed count file w).starts (parsed count file w).stops
  where
    all : (ns rest : List ℕ) → Starts file ns rest → length ns ≡ count → ((ns : List ℕ) × Holds count file ns) ⊎ Some (Row count file)
    all ns [] s l = inl (ns, record { is = s.is ∙ append-nil (encode_all ns); narrow = s.narrow; long = l })
    all ns (b ∷ bs) s l = inr (7, (length (encode_all ns), Row.trailing ns (b ∷ bs) s l (omega arith)))

    go : (ns rest : List ℕ) → Starts file ns rest → (length ns ≡ count) ⊎ ((length ns < count) × Table.Damaged rest) → ((ns : List ℕ) × Holds count file ns) ⊎ Some (Row count file)
    go ns rest s (inl l) = all ns rest s l
    go ns rest s (inr d) = inr (6, (length (encode_all ns), Row.damaged ns rest s d.0 d.1))

pub told : Told
told = record { told = λ count file w. record { row = row_is count file; none = λ h. none_is count file h.0 h.1; every = every_is count file w } }
