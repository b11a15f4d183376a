use Rattle.netlist.specs.Drafts.{sheet}
use Rattle.netlist.specs.Judging.{ReachedBelow}
use Rattle.netlist.proofs.draft.Draft.unreached.Given as goal

abbrev pub invariant-loop-line : goal.invariant-loop-line
invariant-loop-line l = ReachedBelow (sheet l.self).circuit l.line
