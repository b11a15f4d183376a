use Rattle.std.proofs.Common.{arith, rules}
use Rattle.std.proofs.lemmas.List.{take_rest}
use Rattle.std.proofs.lemmas.Grind.{common_steps}
use Rattle.columns.proofs.Readings.{meaning, one_meaning}
use Rattle.columns.proofs.read.Goals as goal

pub returns-then-blanks-text : goal.returns-then-blanks-text
returns-then-blanks-text c = one_meaning _ _ (grind (arith, common_steps))

pub returns : goal.returns
returns c =
    let blanks = c.blanks_before-blanks.ensures in
    one_meaning _ _ (meaning _ _ c.ok_or.ensures.value _ _ blanks.blank blanks.stops (omega arith) _ c.number.ensures (search (rules, take_rest)))
