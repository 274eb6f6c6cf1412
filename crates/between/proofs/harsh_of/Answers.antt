-- `harsh_of` meets its contract. Assumes nothing.
use Rattle.std.proofs.Common.{rules}
use Rattle.between.proofs.Places.{place_most}
use Rattle.between.proofs.harsh_of.Goals as goal

pub moved-requires : goal.moved-requires
moved-requires c = place_most c.args.harsh c.in-Err.refusal (search rules)
