-- What the whole call answered says what is printed.
-- Assumes nothing.
use Prim.Native.Nat.{ℕ}
use mathlib.Core.Path.{◌≡◌, refl, sym, ◌∙◌}
use mathlib.Core.List.{List}
use native.Mathlib.Omega.{arith}
use lib.ListN.{length}
use borrow.Author.Tests.{eq-eqb, ne_eqb}
use Rattle.std.specs.Prelude.{Ok, Err}
use Rattle.basis.specs.declared.Refusal.{Refusal}
use Rattle.basis.specs.declared.Refusal.TheVariants.{SheetLength}
use Rattle.basis.specs.Writing.{written_over}
use Rattle.basis.proofs.Refusals.{first_answers, first_refuses}
use Rattle.rembilung.specs.Call.{text, input_refusal, call_refusal, call_answer, call_buffer}
use Rattle.rembilung.proofs.Room.{room_for_all}
use Rattle.console.specs.Printed.{line, printed, printed_from}

module _ (n : ℕ) (sheet file out : List ℕ) where
  -- another length than 502 bytes
  pub other_length : (n ≡ 502 → ⊥) → line (SheetLength n) ≡ printed_from n sheet file
  unfolding printed_from
  other_length h = rw (ne_eqb n 502 h) refl

  -- 192 bytes have room for every report
  module _ (l : length out ≡ 192) (h : n ≡ 502) where
    same_refusal : call_refusal sheet file out ≡ input_refusal sheet file
    same_refusal = room_for_all sheet file out (omega arith)

    pub report_printed : {k : ℕ} → Ok k ≡ call_answer sheet file out → (k ≡ length (printed_from n sheet file)) × (call_buffer sheet file out ≡ written_over (printed_from n sheet file) out)
    unfolding call_buffer printed printed_from
    report_printed e =
        let f = first_answers (call_refusal sheet file out) (Ok (length (text sheet file))) (sym e) in
        rw (eq-eqb n 502 h, f.0, sym same_refusal ∙ f.0) (cc (f.1), refl)

    pub refusal_printed : {r : Refusal} → Err r ≡ call_answer sheet file out → (line r ≡ printed_from n sheet file) × (call_buffer sheet file out ≡ out)
    unfolding call_buffer printed printed_from
    refusal_printed e =
        let f = first_refuses (call_refusal sheet file out) (length (text sheet file)) (sym e) in
        rw (eq-eqb n 502 h, f, sym same_refusal ∙ f) (refl, refl)
