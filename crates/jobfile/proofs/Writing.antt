-- Laws of writing: where nothing is refused the job stands and its file fits, and the other way round.
-- Assumes nothing.
use Prim.Native.Nat.{ℕ, ◌≤◌}
use mathlib.Core.Path.{◌≡◌, ◌∙◌}
use mathlib.Core.List.{List}
use lib.ListN.{length}
use Rattle.basis.specs.Refusal.{nothing}
use Rattle.basis.specs.Writing.{room_refusal}
use Rattle.basis.proofs.Refusals.{first_nothing}
use Rattle.basis.proofs.Rows.{unrefused, then_rest}
use Rattle.basis.proofs.Writing.{room_fits, room_nothing}
use Rattle.groups.specs.Encode.{encode_all}
use Rattle.jobfile.specs.Kind.{Kind, Stands}
use Rattle.jobfile.specs.Write.{write_refusal}
use Rattle.jobfile.proofs.BothKinds.{told}

module _ (k : Kind) (ns out : List ℕ) where
  pub write_fits : write_refusal k ns out ≡ nothing → Stands k ns × (length (encode_all ns) ≤ length out)
  write_fits h = let n = first_nothing _ _ h in (unrefused (told k ns) n.0, room_fits _ _ n.1)

  pub write_nothing : Stands k ns → length (encode_all ns) ≤ length out → write_refusal k ns out ≡ nothing
  write_nothing h l = then_rest (told k ns) (room_refusal (encode_all ns) out) h ∙ room_nothing (encode_all ns) out l
