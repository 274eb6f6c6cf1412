-- What the papers' tables of refusals say, as facts: which row applies, with its number and its place, or that none does.
-- Assumes nothing.
use Rattle.std.specs.Prelude.{ℕ, ◌<◌, ◌≡◌, ◌⊎◌, Result, Err}
use Rattle.basis.specs.Refusal.{number, place, Examined, nothing}
use Rattle.basis.specs.declared.Refusal.{Refusal}

-- k is the first number of which P holds
pub record First (P : ℕ → Type 0) (k : ℕ) : Type 0 where
  pub here : P k
  pub before : (i : ℕ) → i < k → P i → ⊥

-- some row applies, with its number and its place
abbrev pub Some : (ℕ → ℕ → Type 0) → Type 0
Some Row = (n : ℕ) × ((p : ℕ) × Row n p)

-- an answer is a refusal of that number, at that place
pub record Refused {A : Type 0} (answer : Result A Refusal) (n p : ℕ) : Type 0 where
  pub refusal : Refusal
  pub is : answer ≡ Err refusal
  pub number_is : number refusal ≡ n
  pub place_is : place refusal ≡ p

-- what is refused follows a table: it is that of a row that applies, and nothing where none does; and one of the two holds
pub record Follows (examined : Examined) (Row : ℕ → ℕ → Type 0) (None : Type 0) : Type 0 where
  pub row : (n p : ℕ) → Row n p → Refused examined n p
  pub none : None → examined ≡ nothing
  pub every : None ⊎ Some Row

-- exactly one row applies, or none and the call answers
pub record Exactly (Row : ℕ → ℕ → Type 0) (Answers : Type 0) : Type 0 where
  pub every : Answers ⊎ Some Row
  pub one_row : (n p m q : ℕ) → Row n p → Row m q → (n ≡ m) × (p ≡ q)
  pub not_both : (n p : ℕ) → Row n p → Answers → ⊥
