-- `step_at` meets its contract. Assumes nothing.
use Rattle.std.proofs.Common.{◌∙◌, ap, arith}
use Rattle.std.specs.Prelude.{unwrap_or}
use Rattle.bookfile.proofs.Steps.{step_is, step_short}
use Rattle.bookfile.proofs.places.step_at.Goals as goal

pub overflow_add-result : goal.overflow_add-result
overflow_add-result c = omega (arith, step_short c.args.book.now c.args.at (c.unwrap_or-value.ensures ∙ ap (λ d. unwrap_or d (0, 0)) c.number_at.ensures))

pub returns : goal.returns
returns c = step_is c.args.book.now c.args.at (c.unwrap_or-value.ensures ∙ ap (λ d. unwrap_or d (0, 0)) c.number_at.ensures)
