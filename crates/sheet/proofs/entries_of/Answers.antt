-- `entries_of` meets its contract. Assumes nothing.
use Rattle.std.proofs.Common.{rules}
use Rattle.sheet.proofs.Bytes.{entries_called}
use Rattle.sheet.proofs.entries_of.Goals as goal

pub returns : goal.returns
returns c = entries_called c.args.bytes.now _ _ (λ k r q called. search rules) _ _ c.from_fn.ensures.items
