-- `verdict` meets its contract. Assumes nothing.
use mathlib.Core.Path.{◌≡◌, sym, ap, ◌∙◌}
use borrow.Author.Rules.{rules}
use lib.ListN.{length}
use Rattle.std.specs.Prelude.{Ok}
use Rattle.basis.specs.Refusal.{nothing}
use Rattle.basis.proofs.Refusals.{first_answers, unless_pass}
use Rattle.basis.specs.declared.Refusal.TheVariants.{SheetLength}
use lib.Dec.{eqb, eqb→eq}
use Rattle.sheet.specs.Sheet.{examination}
use Rattle.report.specs.Report.{report_written, report_left}
use Rattle.rembilung.specs.Call.{entries_of, judgement_in}
use Rattle.rembilung.proofs.Ways.{reported, left}
use Rattle.rembilung.proofs.verdict.Goals as goal

pub returns : goal.returns
returns c =
    let E = c.in_ok-entries.entries in
    let u = unless_pass (eqb (length c.args.sheet.now) 502) (SheetLength (length c.args.sheet.now)) (Ok (entries_of c.args.sheet.now)) E (search rules) in
    let l = eqb→eq (length c.args.sheet.now) 502 u.0 in
    let n : E ≡ entries_of c.args.sheet.now = cc (u.1) in
    let t = first_answers (examination E) (Ok E) (sym c.in_ok-sheet.ensures) in
    let s : examination (entries_of c.args.sheet.now) ≡ nothing = ap examination (sym n) ∙ t.0 in
    let same : c.in_ok-sheet.sheet ≡ E = cc (t.1) in
    let g : c.judgement_of.result ≡ judgement_in (entries_of c.args.sheet.now) c.in_ok-job.job = c.judgement_of.ensures ∙ ap (λ x. judgement_in x c.in_ok-job.job) (same ∙ n) in
    let w = c.write.ensures in
    record {
      returned = w.returned ∙ ap (λ x. report_written x c.args.report.now) g ∙ reported _ c.args.file.now _ l s (sym c.in_ok-job.ensures);
      buffer = w.buffer ∙ ap (λ x. report_left x c.args.report.now) g ∙ left _ c.args.file.now _ l s (sym c.in_ok-job.ensures);
    }
