-- Laws of refusals that follow a table.
-- Assumes nothing.
use mathlib.Core.Path.{◌≡◌, refl, sym, ap, ◌∙◌}
use mathlib.Core.Logic.{⊎_elim}
use Prim.Native.Nat.{ℕ}
use Rattle.std.specs.Prelude.{Result, Ok, Err}
use Rattle.basis.specs.Refusal.{number, place, Examined, nothing, first}
use Rattle.basis.specs.declared.Refusal.{Refusal}
use Rattle.basis.specs.Rows.{Refused, Follows, Exactly}

-- an answer is refused as itself, and no answer is two refusals or a refusal and a value
pub refused_is : {A : Type 0} {answer : Result A Refusal} (r : Refusal) → answer ≡ Err r → Refused answer (number r) (place r)
refused_is r e = record { refusal = r; is = e; number_is = refl; place_is = refl }

pub one_refused : {A : Type 0} {answer : Result A Refusal} {n p m q : ℕ} → Refused answer n p → Refused answer m q → (n ≡ m) × (p ≡ q)
one_refused a b = let e : a.refusal ≡ b.refusal = cc (a.is, b.is) in (sym a.number_is ∙ ap number e ∙ b.number_is, sym a.place_is ∙ ap place e ∙ b.place_is)

pub not_refused : {A : Type 0} {answer : Result A Refusal} {n p : ℕ} {x : A} → Refused answer n p → answer ≡ Ok x → ⊥
not_refused a e = absurd (cc (a.is, e))

-- the first of two refuses what one of them refuses
pub refused_first : {A : Type 0} {a : Examined} {n p : ℕ} (rest : Result A Refusal) → Refused a n p → Refused (first a rest) n p
refused_first rest r = record { refusal = r.refusal; is = rw r.is refl; number_is = r.number_is; place_is = r.place_is }

module _ {examined : Examined} {Row : ℕ → ℕ → Type 0} {None : Type 0} (f : Follows examined Row None) where
  -- no two rows apply, nor a row where none does
  pub exactly : Exactly Row None
  exactly =
      record { every = f.every; one_row = λ n p m q a b. one_refused (f.row n p a) (f.row m q b); not_both = λ n p a b. not_refused (f.row n p a) (f.none b) }

  -- where nothing is refused no row applies
  pub unrefused : examined ≡ nothing → None
  unrefused h = ⊎_elim (λ a. a) (λ w. absurd (not_refused (f.row w.0 w.1.0 w.1.1) h)) f.every

  -- of two one after the other: a row of the first, or the second where none applies
  pub then_row : {A : Type 0} (rest : Result A Refusal) (n p : ℕ) → Row n p → Refused (first examined rest) n p
  then_row rest n p a = refused_first rest (f.row n p a)

  pub then_rest : {A : Type 0} (rest : Result A Refusal) → None → first examined rest ≡ rest
  then_rest rest a = rw (f.none a) refl
