-- Stability heights fit 32 bits: what the code asks of heights that it hands on.
-- Assumes nothing.
use Rattle.section5.specs.declared.Heights.{Heights}
use Rattle.section5.specs.Poles.{NoHigher}
use Rattle.judge.specs.Answer.{stability_told}
use Rattle.std.specs.Prelude.{Some}

-- the stability height is at most the greatest that is looked for
abbrev pub Low : Heights → Type 0
Low heights = NoHigher (stability_told heights) (Some 6000)
