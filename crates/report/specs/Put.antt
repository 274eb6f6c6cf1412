-- What the contract of a method that adds bytes to a text says.
-- Assumes nothing.
use Rattle.std.specs.Prelude.{ℕ, ◌+◌, ◌≤◌, ◌≡◌, List, length}
use Rattle.std.proofs.lemmas.List.Edits.{sets}
use Rattle.report.specs.declared.text.Text.{Text}

-- the bytes fit in what is left of the buffer
pub record Room (bytes : List ℕ) (text : Text) : Type 0 where
  pub fits : text.at + length bytes ≤ length text.out.now

-- the bytes stand at the text's end, which is now after them, and the rest of the buffer is as it was
pub record Put (bytes : List ℕ) (before after : Text) : Type 0 where
  pub lent : after.out.ghost_name ≡ before.out.ghost_name
  pub next : after.at ≡ before.at + length bytes
  pub now : after.out.now ≡ sets before.out.now before.at bytes
