-- What is answered of a sheet and two jobs of which nothing is refused.
-- Assumes nothing.
use mathlib.Core.Path.{◌≡◌, refl}
use mathlib.Core.List.{List}
use Prim.Native.Nat.{ℕ}
use Rattle.std.specs.Prelude.{Ok, Err}
use Rattle.basis.specs.declared.Refusal.{Refusal}
use Rattle.basis.specs.Refusal.{nothing, first}
use Rattle.basis.proofs.Refusals.{first_answers}
use Rattle.job.specs.declared.Job.{Job}
use Rattle.job.specs.Examine.{examination}
use Rattle.sheet.specs.Sheet as Sheet
use Rattle.section5.specs.declared.Judgement.{Judgement}
use Rattle.section5.specs.Section5.{judgement}
use Rattle.between.specs.declared.Between.{Between}
use Rattle.between.specs.Order.{disorder}
use Rattle.between.specs.Between.{of_harsh, told, answer}

-- of a sheet and two jobs that are read, as s, j and l
module _ (sheet : List ℕ) (m k : Job) {s : List ℕ} {j l : Job} (es : first (Sheet.examination sheet) (Ok sheet) ≡ Ok s) (em : first (examination m) (Ok m) ≡ Ok j) (ek : first (of_harsh (examination k)) (Ok k) ≡ Ok l) where
  -- what is answered hangs on their order
  ordered : answer sheet m k ≡ first (disorder m k) (Ok (told (judgement m sheet) (judgement k sheet)))
  ordered = rw ((first_answers (Sheet.examination sheet) _ es).0, (first_answers (examination m) _ em).0, (first_answers (of_harsh (examination k)) _ ek).0) refl

  pub answered : {v w : Judgement} {t : Between} → disorder m k ≡ nothing → v ≡ judgement j s → w ≡ judgement l s → t ≡ told v w → Ok t ≡ answer sheet m k
  answered eo ev ew et =
      rw (ordered, eo, et, ev, ew) (cc ((first_answers (Sheet.examination sheet) _ es).1, (first_answers (examination m) _ em).1, (first_answers (of_harsh (examination k)) _ ek).1))

  pub disordered : {r : Refusal} → disorder m k ≡ Err r → Err r ≡ answer sheet m k
  disordered eo = rw (ordered, eo) refl
