use Rattle.std.proofs.lemmas.Grind.{common_steps}
use Rattle.std.proofs.Common.{arith}
use Rattle.netlist.proofs.Reading.{not_looped}
use Rattle.netlist.proofs.closed.Netlist.looped.Goals as goal

pub returns-clause-all_marked : goal.returns-clause-all_marked
returns-clause-all_marked c = grind (arith, common_steps, not_looped)
