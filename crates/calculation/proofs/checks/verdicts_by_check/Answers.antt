-- `verdicts_by_check` meets its contract. Assumes nothing.
use Rattle.calculation.proofs.Verdicts.{rowed}
use Rattle.calculation.proofs.checks.verdicts_by_check.Goals as goal

pub returns : goal.returns
returns c = rowed _ _ _ c.e.view_is c.check1_of-v1.ensures c.check2_of-v2.ensures c.check3_of-v3.ensures c.check4_of-v4.ensures c.check5_of-v5.ensures c.check6_of-v6.ensures c.bears_of.ensures c.verdict_of-v7.ensures c.bends_of.ensures c.verdict_of.ensures c.due_of-v8.ensures c.check9_of-v9.ensures c.base_bears.ensures c.verdict_of-v10.ensures c.check11_of-v11.ensures c.check12_of-v12.ensures
