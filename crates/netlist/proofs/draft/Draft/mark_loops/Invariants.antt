use Rattle.netlist.proofs.Closing.{Marking}
use Rattle.netlist.proofs.draft.Draft.mark_loops.Given as goal

abbrev pub invariant-loop-place : goal.invariant-loop-place
invariant-loop-place l = Marking l.initial.self l.place l.self
