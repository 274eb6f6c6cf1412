-- `outcomes_of` meets its contract. Assumes nothing.
use lib.ListN.{get_or}
use Rattle.std.proofs.Common.{rules}
use Rattle.between.specs.Outcome.{outcome, outcomes}
use Rattle.basis.proofs.Made.{called_all}
use Rattle.between.proofs.outcomes_of.Goals as goal

pub returns : goal.returns
unfolding outcomes
returns c = called_all _ (λ i. outcome (get_or c.args.mild i 0) (get_or c.args.harsh i 0)) _ (λ k r q called. search rules) (outcome 0 0) _ _ c.from_fn.ensures.items
