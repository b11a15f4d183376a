use Rattle.netlist.proofs.Rewriting.{Rewound}
use Rattle.netlist.proofs.closed.Netlist.rewind.Given as goal

abbrev pub invariant-loop-place : goal.invariant-loop-place
invariant-loop-place l = Rewound l.initial.self l.place l.self
