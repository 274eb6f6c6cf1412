-- `judge_between` meets its contract. Assumes nothing.
use mathlib.Core.Path.{◌≡◌, ◌∙◌}
use Rattle.std.proofs.Common.{rules}
use Rattle.std.specs.Prelude.{Err}
use Rattle.between.proofs.Heights.{low}
use Rattle.between.proofs.Ways.{answered, disordered}
use Rattle.between.proofs.judge_between.Goals as goal

pub told_of-requires : goal.told_of-requires
told_of-requires c = rw (c.judge_accepted.ensures, c.judge_accepted-2.ensures) (low _ _, low _ _)

pub returns-in_err-examine : goal.returns-in_err-examine
returns-in_err-examine c =
    let e : c.from_residual-in_err-examine.result ≡ Err c.in_err-examine.field-0.0 = search rules in
    e ∙ disordered c.args.sheet.now c.args.mild c.args.harsh {s = c.in_ok-sheet.sheet} {j = c.in_ok-m.m} {l = c.in_ok-k.k} (search rules) (search rules) (search rules) (search rules)

pub returns : goal.returns
returns c =
    answered c.args.sheet.now c.args.mild c.args.harsh (search rules) (search rules) (search rules) (search rules)
    c.judge_accepted.ensures c.judge_accepted-2.ensures c.told_of.ensures
