use Rattle.semantics.proofs.Closed.{wired, all_reached}
use Rattle.semantics.proofs.netlists.netlists_are_wired.Goals as goal

pub returns : goal.returns
returns c = record { wired = wired c.args.netlist.now; reached = all_reached c.args.netlist.now }
