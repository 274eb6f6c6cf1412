-- What is printed follows the table, proved.
-- Assumes nothing.
use Prim.Native.Nat.{ℕ, min}
use mathlib.Core.Path.{◌≡◌, ap, ap₂, ◌∙◌}
use mathlib.Core.List.{List}
use Rattle.groups.specs.Decode.{Bytes}
use Rattle.jobfile.specs.Kind.{Kind}
use Rattle.report.specs.Refused.{refused_line}
use Rattle.rembilung.specs.Call.{text}
use Rattle.rembilung.specs.Table.{InputRow, Judges, report_of}
use Rattle.rembilung.proofs.Table.{input_follows, text_is}
use Rattle.console.specs.Printed.{text_or_line, printed, Prints}

refused : (sheet file : List ℕ) → Bytes file → (n p : ℕ) → InputRow sheet file n p → printed sheet file ≡ refused_line n (min p 4294967295)
unfolding printed
refused sheet file w n p a =
    let e = (input_follows sheet file w).row n p a in
    ap (λ r. text_or_line r (text sheet file)) e.is ∙ ap₂ (λ m q. refused_line m (min q 4294967295)) e.number_is e.place_is

reported : (sheet file : List ℕ) → Bytes file → (k : Kind) (ns : List ℕ) → Judges k sheet file ns → printed sheet file ≡ report_of k sheet ns
unfolding printed
reported sheet file w k ns a = rw ((input_follows sheet file w).none (k, (ns, a))) (text_is sheet file w k ns a.reads)

pub prints : Prints
prints = record { refused = refused; reported = reported }
