use Rattle.std.proofs.Common.{◌-◌, ◌∙◌, arith}
use Rattle.std.proofs.lemmas.List.{get_or_default}
use Rattle.netlist.proofs.row.row_of_line.Goals as goal

pub returns : goal.returns
returns c = (c.args.line - c.args.inputs - 1, omega arith, omega arith, c.index-rows-line.is ∙ get_or_default c.args.rows.now _ _ _ (omega arith))
