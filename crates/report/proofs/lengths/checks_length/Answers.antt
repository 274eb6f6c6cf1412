-- `checks_length` meets its contract. Assumes nothing.
use Rattle.std.proofs.Common.{◌≡◌, ◌∙◌, ◌+◌, ◌*◌, rules, arith, length}
use Rattle.std.proofs.lemmas.Iterator.{YieldsList-from_map}
use Rattle.std.proofs.lemmas.Iterator.Consumers.{sum_by_from_yields_List}
use Rattle.section5.specs.Section5.{checks}
use Rattle.report.proofs.Counted.{counted_all, counted_below, counted_lines, line_length}
use Rattle.report.proofs.lengths.checks_length.Goals as goal

pub sum-requires-clause-fits : goal.sum-requires-clause-fits
sum-requires-clause-fits c =
    let l : length c.args.verdicts ≡ checks = search rules in
    let all = counted_all c.map.result.iter c.args.verdicts c.args.figures (search rules) (search rules) (search rules) l in
    counted_below _ c.args.verdicts c.args.figures all l c.map.ensures.closure (omega arith) (λ x r q k. search rules)

pub returns : goal.returns
returns c =
    let l : length c.args.verdicts ≡ checks = search rules in
    let all = counted_all c.map.result.iter c.args.verdicts c.args.figures (search rules) (search rules) (search rules) l in
    let run = c.sum.ensures.runs tt in
    let below = counted_below (63 * checks + 1) c.args.verdicts c.args.figures all l c.map.ensures.closure (omega arith) (λ x r q k. search rules) run.0 run.0.seen run.1 in
    record {
      is = sum_by_from_yields_List line_length _ _ _ c.sum.ensures.ran (YieldsList-from_map _ _ all c.map.ensures.closure (λ x r q k. search rules)) ∙ counted_lines c.args.verdicts c.args.figures 1;
      most = omega (arith, below, run.3);
    }
